-- The entries of the list of words that are confounded with blocks.
use Rattle.std.proofs.Common.{ℕ, ◌≡◌, ◌<◌, ◌≤◌, ◌+◌, ◌-◌, ◌/◌, ◌^◌, ◌∙◌, ◌&&◌, ◌++◌, true, false, cond, eqb, List}
use Rattle.std.proofs.Common.{[], ◌∷◌, length, take, get_or, refl, sym, subst, ap, arith, inl, inr}
use Rattle.std.specs.Prelude.{count_by}
use Rattle.std.proofs.lemmas.Bool.{cases_Bool, and_right}
use Rattle.std.proofs.lemmas.List.{take-map, take_more, take_all, length-map}
use Rattle.std.proofs.lemmas.List.Elements.{recursion_from_All}
use Rattle.std.proofs.lemmas.List.FromFn.{get_or-map-range_with_len, length-map-range_with_len}
use Rattle.std.proofs.Math.ListN.{drop_of_length-le}
use Rattle.std.proofs.Math.Nat.{zero-div}
use Rattle.fx_designs.specs.Galois.{IsField, digits}
use Rattle.fx_designs.specs.Vectors.{IsVector, weight, combination, zeros, vectors_of}
use Rattle.fx_designs.specs.Runs.{points, is_constant, is_constant_in_blocks}
use Rattle.fx_designs.specs.Spans.{in_span}
use Rattle.fx_laws.proofs.Constant.{constant_sum}
use Rattle.fx_laws.proofs.Raises.{sum_by-each}
use Rattle.fx_laws.proofs.Ranks.{in_span-true}
use Rattle.fx_laws.proofs.Shift.{all-points}
use Rattle.fx_laws.proofs.Space.{combination-vector}
use Rattle.fx_laws.proofs.Sums.{sum_by-zero}
use Rattle.fx_runs.proofs.Confounding.{constant_in_span}
use Rattle.fx_runs.specs.Runs.{design_of}
use Rattle.fx_vectors.proofs.Steps.{are_vectors}
use Rattle.fx_vectors.specs.Matrix.{MatrixView}
use Rattle.fx_alias.specs.Blocked.{is_blocked}
use Rattle.fx_alias.specs.BlockWords.{block_words_of}
use Rattle.fx_alias.proofs.Confounded.{front}

module _ (matrix : MatrixView) where
  abbrev q : ℕ
  q = matrix.shape.q

  abbrev s : ℕ
  s = matrix.shape.s

  -- the vectors of weight k that are confounded
  abbrev pub confounded : ℕ → ℕ
  confounded k = count_by (λ u. eqb (weight u) k && is_blocked (design_of matrix) u) (points q s)

  pub words_length : length (block_words_of matrix) ≡ s
  unfolding block_words_of
  words_length = length-map-range_with_len (λ k. confounded k / (q - 1)) 1 s

  pub words_entry : (i : ℕ) → i < s → get_or (block_words_of matrix) i 0 ≡ confounded (i + 1) / (q - 1)
  unfolding block_words_of
  words_entry i low = get_or-map-range_with_len (λ k. confounded k / (q - 1)) 1 s i _ 0 low (omega arith)

  pub words_more : (i : ℕ) → i < s
      → take (i + 1) (block_words_of matrix) ≡ take i (block_words_of matrix) ++ get_or (block_words_of matrix) i 0 ∷ []
  words_more i low = take_more _ i 0 (omega (arith, words_length))

  pub words_whole : (i : ℕ) → s ≤ i → take i (block_words_of matrix) ≡ block_words_of matrix
  words_whole i past = take_all i (block_words_of matrix) (omega (arith, words_length))

-- without block rules
module _ (matrix : MatrixView) (f : IsField matrix.shape.q)
    (complete : length matrix.rows ≡ matrix.shape.s + matrix.shape.t) (none : matrix.shape.t ≡ 0) where
  abbrev m : ℕ
  m = matrix.shape.m

  abbrev rules : List (List ℕ)
  rules = vectors_of (q matrix) m matrix.rows

  of_nothing : (by : List ℕ) → combination (q matrix) m by [] ≡ zeros m
  of_nothing [] = refl
  of_nothing (a ∷ by) = refl

  -- what is constant in the one block is constant over all runs
  constant_too : (u : List ℕ) → IsVector (q matrix) (s matrix) u
      → is_constant_in_blocks (q matrix) (s matrix) (q matrix ^ matrix.shape.t) u (design_of matrix).rows ≡ true
      → is_constant (q matrix) u (design_of matrix).rows ≡ true
  constant_too u hu e =
      let sum = combination (q matrix) m u (take (s matrix) rules) in
      let no_rules =
      drop_of_length-le rules (omega (arith, length-map matrix.rows (digits (q matrix) m))) in
      let factors = subst (λ v. IsVector (q matrix) m (combination (q matrix) m u v))
      (sym (take-map (digits (q matrix) m) (s matrix) matrix.rows))
      (combination-vector _ m f u _ (are_vectors _ m (take (s matrix) matrix.rows) (omega arith))) in
      let spans =
      in_span-true _ m f [] sum tt factors
      (subst (λ v. in_span (q matrix) m v sum ≡ true) no_rules
      ((constant_in_span _ m _ matrix.shape.t f matrix.rows u complete hu).0 e)) in
      (constant_sum _ f u m matrix.rows).1
      (sym (front (q matrix) m (s matrix) u rules (let l : length u ≤ s matrix = omega arith in l))
      ∙ sym spans.gives ∙ of_nothing spans.by)

  none_blocked : (u : List ℕ) → IsVector (q matrix) (s matrix) u → is_blocked (design_of matrix) u ≡ false
  none_blocked u hu =
      let inside =
      is_constant_in_blocks (q matrix) (s matrix) (q matrix ^ matrix.shape.t) u (design_of matrix).rows in
      elim (cases_Bool inside) [
        | inl constant ↦ cc (constant_too u hu constant)
        | inr moves ↦ and_right _ inside moves
      ]

  no_confounded : (k : ℕ) → ◌≡◌ {A = ℕ} (confounded matrix k) 0
  no_confounded k =
      let test : List ℕ → ℕ = λ u. cond (eqb (weight u) k && is_blocked (design_of matrix) u) 1 0 in
      sum_by-each test (λ u. 0) (points (q matrix) (s matrix))
      (recursion_from_All _ _
      (all-points (q matrix) (s matrix) (omega arith) (λ u. test u ≡ 0)
      (λ u hu. ap (λ b. cond b 1 0) (and_right (eqb (weight u) k) _ (none_blocked u hu)))))
      ∙ sum_by-zero (points (q matrix) (s matrix))

  pub no_entry : (i : ℕ) → i < s matrix → ◌≡◌ {A = ℕ} (get_or (block_words_of matrix) i 0) 0
  no_entry i low =
      cc (words_entry matrix i low, no_confounded (i + 1), zero-div (q matrix - 1))
