-- A fold-over adds no words, so that the resolution is not lower.
use Rattle.std.proofs.Common.{ℕ, ◌≡◌, ◌≤◌, ◌+◌, ◌-◌, ◌/◌, ◌%◌, ◌&&◌, Bool, true, false, cond, eqb, List, length, take}
use Rattle.std.proofs.Common.{slice_index, sym, ◌∙◌, arith, inl, inr}
use Rattle.std.proofs.lemmas.Bool.{cases_lt}
use Rattle.std.proofs.lemmas.List.{get_or_past, take_all}
use Rattle.std.proofs.lemmas.List.Elements.{recursion_from_All}
use Rattle.std.proofs.lemmas.List.FromFn.{get_or-map-range_with_len}
use Rattle.fx_designs.specs.Vectors.{weight, vectors_of, IsVector}
use Rattle.fx_designs.specs.Runs.{points, is_constant, runs_of}
use Rattle.fx_designs.specs.Patterns.{constant_words, pattern_of, resolution_of}
use Rattle.fx_laws.proofs.CanonicalTest.{rows-vectors}
use Rattle.fx_laws.proofs.Raises.{sum_by-le}
use Rattle.fx_laws.proofs.Shift.{all-points}
use Rattle.fx_laws.proofs.Space.{AreVectors}
use Rattle.fx_reduction.proofs.ShortWords.{resolution-most, none-before, before-resolution, pattern-length}
use Rattle.fx_words.proofs.Levels.{length-vectors}
use Rattle.fx_foldover.specs.Foldovers.{combined_plan, combined_words, combined_pattern, folded_count}
use Rattle.fx_foldover.specs.Laws.{two_levels}
use Rattle.fx_foldover.proofs.Rules.{two}
use Rattle.fx_foldover.proofs.EvenWords.{even-words}
use Rattle.fx_foldover.proofs.CombinedWords.{length-pattern}

-- a test with one condition more counts no more
fewer : (a b c : Bool) → cond (a && (b && c)) 1 0 ≤ cond (a && b) 1 0
fewer true true true = omega arith
fewer true true false = omega arith
fewer true false c = omega arith
fewer false b c = omega arith

module _ (m : ℕ) (fold : List ℕ) (rules : List (List ℕ)) (k : ℕ) (e : length fold ≡ length rules)
    (hr : AreVectors 2 m rules) where
  abbrev counted : List (List ℕ) → List ℕ → ℕ
  counted runs u = cond (eqb (weight u) k && is_constant 2 u runs) 1 0

  each : (u : List ℕ) → IsVector 2 (length rules) u
      → counted (combined_plan fold (runs_of 2 m rules)) u ≤ counted (runs_of 2 m rules) u
  each u hu =
      rw (even-words m fold rules e hr u hu)
      (fewer (eqb (weight u) k) (is_constant 2 u (runs_of 2 m rules)) (eqb (folded_count fold u % 2) 0))

  no-more : combined_words m fold rules k ≤ constant_words 2 m rules k
  unfolding combined_words constant_words
  no-more =
      let all = points 2 (length rules) in
      let combined = counted (combined_plan fold (runs_of 2 m rules)) in
      let first = counted (runs_of 2 m rules) in
      sum_by-le combined first all
      (recursion_from_All _ all (all-points 2 _ (omega arith) (λ u. combined u ≤ first u) each))

pub no-more_words : (m : ℕ) (rows fold : List ℕ) (k : ℕ) → length fold ≡ length rows
    → combined_words m fold (vectors_of 2 m rows) k ≤ constant_words 2 m (vectors_of 2 m rows) k
no-more_words m rows fold k e =
    no-more m fold _ k (e ∙ sym (length-vectors 2 m rows)) (rows-vectors 2 m two rows)

module _ (m : ℕ) (rows fold : List ℕ) (e : length fold ≡ length rows) where
  abbrev first : List ℕ
  first = pattern_of (two_levels m (length rows)) rows

  abbrev combined : List ℕ
  combined = combined_pattern m fold (vectors_of 2 m rows)

  -- no entry is greater
  entries : (k : ℕ) → slice_index combined k ≤ slice_index first k
  unfolding combined_pattern pattern_of
  entries k = elim (cases_lt k (length rows)) [
    | inl low ↦
        let there = length-vectors 2 m rows in
        let ours = get_or-map-range_with_len (combined_words m fold (vectors_of 2 m rows)) 1
        (length (vectors_of 2 m rows)) k (k + 1) 0 (omega arith) (omega arith) in
        let theirs = get_or-map-range_with_len
        (λ k. constant_words 2 m (vectors_of 2 m (take (length rows) rows)) k / (2 - 1)) 1 _ k (k + 1) 0 low
        (omega arith) in
        let same : constant_words 2 m (vectors_of 2 m (take (length rows) rows)) (k + 1)
        ≡ constant_words 2 m (vectors_of 2 m rows) (k + 1) =
        cc (take_all (length rows) rows (omega arith)) in
        let few = no-more_words m rows fold (k + 1) e in
        omega arith
    | inr past ↦
        let none = get_or_past combined k 0 (omega (
          arith,
          length-pattern m fold (vectors_of 2 m rows),
          length-vectors 2 m rows,
        )) in
        omega arith
  ]

  pub not-lower : resolution_of first ≤ resolution_of combined
  not-lower =
      let most = resolution-most first in
      let ours = length-pattern m fold (vectors_of 2 m rows) in
      let count = length-vectors 2 m rows in
      let theirs = pattern-length (two_levels m (length rows)) rows in
      elim (none-before combined (resolution_of first)
      (λ k low. (let none = before-resolution first k low in let few = entries k in omega arith))) [
        | inl not_lower ↦ not_lower
        | inr highest ↦ omega arith
      ]
