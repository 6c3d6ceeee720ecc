-- Isomorphic designs have as many clear words.
use Rattle.std.proofs.Common.{ℕ, ◌≡◌, List, [], ◌∷◌, map, length, zero, suc, refl, ◌∙◌}
use Rattle.std.proofs.lemmas.List.Elements.{recursion_from_All}
use Rattle.fx_designs.specs.Galois.{IsField}
use Rattle.fx_designs.specs.Vectors.{combination}
use Rattle.fx_designs.specs.Runs.{points}
use Rattle.fx_laws.specs.Changes.{IsChange}
use Rattle.fx_laws.specs.Scalings.{AreScalars, scaled}
use Rattle.fx_laws.specs.Reorders.{swapped, reordered}
use Rattle.fx_laws.proofs.Space.{AreVectors, combination-vector}
use Rattle.fx_laws.proofs.Sums.{sum_by-ext}
use Rattle.fx_laws.proofs.Ranks.{map-vectors, in_span-change}
use Rattle.fx_laws.proofs.Scalings.{scaled-vectors}
use Rattle.fx_strata.specs.Designs.{Strata, unclear_of}
use Rattle.fx_strata.specs.Words.{words_in}
use Rattle.fx_strata.specs.Sums.{effects_at, is_unclear_sum, unclear_sums}
use Rattle.fx_strata.specs.Laws.{SameClear}
use Rattle.fx_strata.proofs.Totals.{total-same, total-changed, total-scaled, total-reordered, AreAlike, counted}
use Rattle.fx_strata.proofs.Unclear.{near, effects-total, effects-changed, unclear-are-sums}

module _ (x : Strata) (f : IsField x.q) (base : List (List ℕ)) where
  alike : (xs ys : List (List ℕ)) → AreAlike x.q x.m f xs ys → unclear_sums x base xs ≡ unclear_sums x base ys
  unfolding words_in
  alike xs ys h =
      let effects : (v : List ℕ) → effects_at x.q x.m xs v ≡ effects_at x.q x.m ys v = λ v.
      cc (effects-total x.q x.m f xs v, h (near x.q x.m f v), effects-total x.q x.m f ys v) in
      sum_by-ext _ _ (points x.q (length xs))
      (λ u. cc (effects (combination x.q x.m u xs)))
      ∙ h (counted x.q x.m f (is_unclear_sum x base ys) 2)

  swapped-vectors : (k : ℕ) (rows : List (List ℕ)) → AreVectors x.q x.m rows → AreVectors x.q x.m (swapped k rows)
  swapped-vectors zero [] h = tt
  swapped-vectors zero (r ∷ []) h = h
  swapped-vectors zero (r ∷ r' ∷ rows) h = (h.1.0, (h.0, h.1.1))
  swapped-vectors (suc k) [] h = tt
  swapped-vectors (suc k) (r ∷ rows) h = (h.0, swapped-vectors k rows h.1)

  reordered-vectors : (ks : List ℕ) (rows : List (List ℕ)) → AreVectors x.q x.m rows
      → AreVectors x.q x.m (reordered ks rows)
  reordered-vectors [] rows h = h
  reordered-vectors (k ∷ ks) rows h = reordered-vectors ks (swapped k rows) (swapped-vectors k rows h)

  module _ (factors : List (List ℕ)) (hb : AreVectors x.q x.m base) (hf : AreVectors x.q x.m factors) where
    by-change : (a : List ℕ → List ℕ) → IsChange x.q x.m a
        → unclear_of x (map a base) (map a factors) ≡ unclear_of x base factors
    unfolding words_in
    by-change a change =
        cc (
          unclear-are-sums x f _ _ (map-vectors x.q x.m f a change base hb)
              (map-vectors x.q x.m f a change factors hf),
          total-changed x.q x.m f (counted x.q x.m f (is_unclear_sum x (map a base) (map a factors)) 2) a change
              factors hf,
          total-same x.q x.m f (counted x.q x.m f (is_unclear_sum x base factors) 2)
              (λ j v. counted x.q x.m f (is_unclear_sum x (map a base) (map a factors)) 2 j (a v)) factors factors refl
              (λ u hu. let v = combination x.q x.m u factors in let hv = combination-vector
              x.q x.m f u factors hf in
              cc (in_span-change x.q x.m f a change base v hb hv, effects-changed x.q x.m f a change v hv factors hf)),
          unclear-are-sums x f base factors hb hf,
        )

    by-order : (ks : List ℕ) → unclear_of x base (reordered ks factors) ≡ unclear_of x base factors
    by-order ks =
        cc (
          unclear-are-sums x f base _ hb (reordered-vectors ks factors hf),
          alike (reordered ks factors) factors
              (λ g. total-reordered x.q x.m f g ks factors),
          unclear-are-sums x f base factors hb hf,
        )

    by-multiples : (cs : List ℕ) → AreScalars x.q cs → length cs ≡ length factors
        → unclear_of x base (scaled x.q cs factors) ≡ unclear_of x base factors
    by-multiples cs h e =
        cc (
          unclear-are-sums x f base _ hb (scaled-vectors x.q f x.m cs factors hf),
          alike (scaled x.q cs factors)
              factors (λ g. total-scaled x.q x.m f g cs factors h e),
          unclear-are-sums x f base factors hb hf,
        )

pub same_clear : (x : Strata) (f : IsField x.q) → SameClear x
same_clear x f base factors hb hf =
    let hb' = recursion_from_All _ base hb in
    let hf' = recursion_from_All _ factors hf in
    record {
      change = by-change x f base factors hb' hf';
      order = by-order x f base factors hb' hf';
      multiples = by-multiples x f base factors hb' hf';
    }
