-- With more rows no word of two factors becomes clear.
use Rattle.std.proofs.Common.{ℕ, ◌≡◌, ◌<◌, ◌≤◌, true, List, ◌++◌, length}
use Rattle.std.proofs.Common.{arith, inl, inr, le_trans}
use Rattle.std.specs.Prelude.{nat_lt}
use Rattle.std.proofs.lemmas.Bool.{or_cases, or_left, or_right, lt-ltb, ltb-true}
use Rattle.std.proofs.lemmas.List.{map-append}
use Rattle.std.proofs.lemmas.List.Elements.{recursion_from_All}
use Rattle.fx_designs.specs.Galois.{IsField, digits}
use Rattle.fx_designs.specs.Vectors.{IsVector, weight, combination, vectors_of}
use Rattle.fx_designs.specs.Spans.{in_span}
use Rattle.fx_laws.proofs.Shift.{all-points}
use Rattle.fx_laws.proofs.Raises.{sum_by-le}
use Rattle.fx_laws.proofs.CanonicalTest.{rows-vectors}
use Rattle.fx_strata.specs.Designs.{Strata}
use Rattle.fx_strata.specs.Words.{words_in}
use Rattle.fx_strata.specs.Sums.{effects_at, is_unclear_sum}
use Rattle.fx_strata.specs.Canonical.{base, unclear}
use Rattle.fx_strata.proofs.Totals.{one-less, total, total-turned, total-more, counted}
use Rattle.fx_strata.proofs.Unclear.{near, effects-total}

module _ (x : Strata) (f : IsField x.q) where
  -- of more rows there is no less
  pub total-longer : (g : ℕ → List ℕ → ℕ) (c s : List ℕ)
      → total x.q x.m f g (vectors_of x.q x.m c) ≤ total x.q x.m f g (vectors_of x.q x.m (c ++ s))
  total-longer g c s =
      let vc = vectors_of x.q x.m c in
      let vs = vectors_of x.q x.m s in
      let more = total-more x.q x.m f g vs vc (rows-vectors x.q x.m f s) (rows-vectors x.q x.m f c) in
      let last : total x.q x.m f g (vs ++ vc) ≡ total x.q x.m f g (vectors_of x.q x.m (c ++ s)) =
      cc (total-turned x.q x.m f g vs vc, map-append (digits x.q x.m) c s) in
      omega arith

  -- of a greater value there is no less
  pub total-less : (g h : ℕ → List ℕ → ℕ) (zs : List (List ℕ))
      → ((u : List ℕ) → IsVector x.q (length zs) u
      → g (weight u) (combination x.q x.m u zs) ≤ h (weight u) (combination x.q x.m u zs))
      → total x.q x.m f g zs ≤ total x.q x.m f h zs
  total-less g h zs less =
      sum_by-le (λ u. g (weight u) (combination x.q x.m u zs)) (λ u. h (weight u) (combination x.q x.m u zs))
      _
      (recursion_from_All _ _ (all-points x.q _ (omega arith)
      (λ u. g (weight u) (combination x.q x.m u zs) ≤ h (weight u) (combination x.q x.m u zs)) less))

  pub effects-longer : (c s v : List ℕ)
      → effects_at x.q x.m (vectors_of x.q x.m c) v ≤ effects_at x.q x.m (vectors_of x.q x.m (c ++ s)) v
  effects-longer c s v =
      omega (
        arith,
        effects-total x.q x.m f (vectors_of x.q x.m c) v,
        effects-total x.q x.m f
            (vectors_of x.q x.m (c ++ s)) v,
        total-longer (near x.q x.m f v) c s,
      )

  pub unclear-longer : (c s v : List ℕ) → is_unclear_sum x (base x) (vectors_of x.q x.m c) v ≡ true
      → is_unclear_sum x (base x) (vectors_of x.q x.m (c ++ s)) v ≡ true
  unclear-longer c s v t = elim (or_cases (in_span x.q x.m (base x) v)
      (nat_lt 1 (effects_at x.q x.m (vectors_of x.q x.m c) v)) t) [
        | inl i ↦ or_left _ _ i
        | inr l ↦
            let more = ltb-true _ _ l in
            let up = effects-longer c s v in
            let few : 1 < effects_at x.q x.m (vectors_of x.q x.m (c ++ s)) v = omega arith in
            or_right _ _ (lt-ltb _ _ few)
      ]

  pub unclear-more : (c s : List ℕ) → unclear x c ≤ unclear x (c ++ s)
  unfolding words_in
  unclear-more c s =
      let old = is_unclear_sum x (base x) (vectors_of x.q x.m c) in
      let new = is_unclear_sum x (base x) (vectors_of x.q x.m (c ++ s)) in
      le_trans
      (total-less (counted x.q x.m f old 2) (counted x.q x.m f new 2) (vectors_of x.q x.m c)
      (λ u hu. one-less _
      _ _
      (unclear-longer c s (combination x.q x.m u (vectors_of x.q x.m c)))))
      (total-longer (counted x.q x.m f new 2) c s)
