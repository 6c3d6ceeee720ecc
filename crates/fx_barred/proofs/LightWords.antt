-- Under a resolution, over all factor rows: the best word for a block row is the greatest of least weight that is
-- reached.
use Rattle.std.proofs.Common.{ℕ, ◌≡◌, ◌<◌, ◌≤◌, ◌+◌, ◌-◌, ◌/◌, ◌^◌, true, false, ◌&&◌, ◌||◌, List, ◌∷◌, ◌++◌, [], take}
use Rattle.std.proofs.Common.{drop, length, sym, ◌∙◌, ap, arith, inl, inr}
use Rattle.std.specs.Prelude.{nat_lt, nat_le}
use Rattle.std.specs.List.{AllByRecursion}
use Rattle.std.proofs.lemmas.Bool.{cases_eq, cases_lt, eq-eqb, eqb-true, lt-ltb, leb-true, le-leb, and_parts, and_from}
use Rattle.std.proofs.lemmas.Bool.{or_left, or_right, or_cases}
use Rattle.std.proofs.lemmas.List.{take_all}
use Rattle.fx_designs.specs.Galois.{number, IsField}
use Rattle.fx_designs.specs.Vectors.{weight, is_zero}
use Rattle.fx_designs.specs.Problems.{Dimensions, Requirement, AtResolution}
use Rattle.fx_designs.specs.Demands.{is_estimated, is_forbidden_word}
use Rattle.fx_demands.specs.Completions.{IsCompletion}
use Rattle.fx_barred.specs.Reach.{reaches, greatest_word}
use Rattle.fx_barred.specs.BestWords.{BringsToZero, IsBestWord}
use Rattle.fx_barred.proofs.Reach.{none_reached, greatest_reached}
use Rattle.fx_barred.proofs.Bars.{reaches-before, word-before}
use Rattle.fx_barred.proofs.BlockBars.{rest, front-is, rest-is, number-more, forbidden-is, whole-vector, closes, split}
use Rattle.fx_barred.proofs.BlockBars.{brings}
use Rattle.fx_barred.proofs.Longer.{single, front-single, partial-single, number-single}

module _ (d : Dimensions) (f : IsField d.q) (r : ℕ) (rows : List ℕ) (below : AllByRecursion (λ x. x < d.q ^ d.m) rows)
    (all : length rows ≡ d.s) (some : 0 < d.t) (x : ℕ) (x-below : x < d.q ^ d.m) where
  abbrev wanted : Requirement
  wanted = AtResolution r

  abbrev q : ℕ
  q = d.q

  abbrev k : ℕ
  k = length rows

  abbrev most : ℕ
  most = (r - 1) / 2

  abbrev longer : List ℕ
  longer = rows ++ x ∷ []

  blocks : d.s ≤ k
  blocks = omega arith

  part : k < d.s + d.t
  part = omega arith

  abbrev end : List ℕ
  end = rest d f wanted rows below blocks part x x-below

  abbrev chosen : List ℕ
  chosen = drop k (single d f rows below part x x-below)

  front : chosen ≡ end
  front = front-single d f rows below part x x-below

  whole : (u : List ℕ) → length u ≡ k → take d.s u ≡ u
  whole u len = take_all d.s u (omega arith)

  light-passes : (u : List ℕ) → length u ≡ k → weight u ≤ most
      → (is_zero (take d.s u) || is_estimated wanted (take d.s u)) ≡ true
  unfolding is_estimated
  light-passes u len light =
      ap (λ l. is_zero l || is_estimated wanted l) (whole u len)
      ∙ elim (cases_eq (weight u) 0) [
        | inl none ↦ or_left _ _ (eq-eqb _ 0 none)
        | inr positive ↦
            or_right (is_zero u) _ (and_from _ _ (lt-ltb 0 (weight u) (omega arith)) (le-leb _ most light))
      ]

  passes-light : (u : List ℕ) → length u ≡ k → (is_zero (take d.s u) || is_estimated wanted (take d.s u)) ≡ true
      → weight u ≤ most
  unfolding is_estimated
  passes-light u len is =
      elim (or_cases (is_zero u) (nat_lt 0 (weight u) && nat_le (weight u) most)
      (cc (whole u len))) [
        | inl none ↦ let z = eqb-true _ 0 none in omega arith
        | inr parts ↦ leb-true _ most (and_parts _ _ parts).1
      ]

  -- such a vector completes the word with a single code
  completes : (u : List ℕ) → BringsToZero d wanted rows x u → IsCompletion d k (weight u) chosen (u ++ end)
  completes u h = record {
    vector = whole-vector d f wanted rows below blocks part x x-below u h.vector.len h.vector;
    begins = cc (rest-is d f wanted rows below blocks part x x-below u h.vector.len, front);
    light = cc (front-is d f wanted rows below blocks part x x-below u h.vector.len);
  }

  -- none is as light as what is not reached
  none-lighter : (w : ℕ) (u : List ℕ) → reaches q d.m rows k w x ≡ false → weight u ≤ w → BringsToZero d wanted rows x u
      → ⊥
  none-lighter w u unmet le h =
      let none =
      none_reached d f longer wanted k w _ x _
      (cc (reaches-before q d.m rows x k w x (omega arith))) le (partial-single d f rows below part x x-below) in
      none.none (u ++ end) (completes u h) (closes d f wanted rows below blocks part x x-below u h.vector.len h).hit

  pub none-light : reaches q d.m rows k most x ≡ false → (u : List ℕ) → BringsToZero d wanted rows x u → ⊥
  none-light unmet u h = none-lighter most u unmet (passes-light u h.vector.len h.factors) h

  pub best-light : (left : ℕ) → left ≤ most → reaches q d.m rows k left x ≡ true
      → ((l : ℕ) → l < left → reaches q d.m rows k l x ≡ false)
      → IsBestWord (BringsToZero d wanted rows x) q
      (record { weight = left; number = greatest_word q d.m rows k left x })
  best-light left few met first =
      let before = λ (l : ℕ). reaches-before q d.m rows x k l x (omega arith) in
      let g = greatest_reached d f longer wanted k left x _ (cc (before left))
      (λ l less. before l ∙ first l less) (partial-single d f rows below part x x-below)
      (λ other c.
      (let parts = split d f wanted rows below blocks part x x-below other c.vector (cc front) in
      ap (is_forbidden_word d wanted) (sym parts.1) ∙ forbidden-is d f wanted rows below blocks part x x-below
      (take k other) parts.0.len ∙ light-passes (take k other) parts.0.len (omega arith))) in
      let w = g.0 in
      let c = g.1.completion in
      let is = c.begins ∙ front in
      let parts = split d f wanted rows below blocks part x x-below w c.vector is in
      let mine = number-more d f wanted rows below blocks part x x-below (take k w) parts.0.len in
      let one = number-single d f rows below part x x-below in
      let same = ap (number q) parts.1 in
      let word = word-before q d.m rows x k left x (omega arith) in
      record {
        word = take k w;
        holds = brings d f wanted rows below blocks part x x-below w c.vector is g.1.hit.forbidden g.1.hit.zero_sum;
        weighs = c.light;
        counts = omega arith;
        none_better = λ v hv.
            elim (cases_lt (weight v) left) [
              | inl less ↦ absurd (none-lighter (weight v) v (first (weight v) less) (omega arith) hv)
              | inr le ↦
                  elim (cases_eq (weight v) left) [
                    | inr other ↦ inl (omega arith)
                    | inl equal ↦
                        let done =
                        rw equal at (completes v hv) in
                        let less =
                        g.1.greatest (v ++ end) done
                        (closes d f wanted rows below blocks part x x-below v hv.vector.len hv).hit in
                        let theirs = number-more d f wanted rows below blocks part x x-below v hv.vector.len in
                        inr (omega arith, omega arith)
                  ]
            ];
      }
