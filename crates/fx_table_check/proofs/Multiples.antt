-- A word and its multiples count each: each entry of a key is a multiple of q - 1.
use Rattle.std.proofs.Common.{ℕ, ◌≡◌, ◌<◌, ◌≤◌, ◌+◌, ◌-◌, ◌*◌, Bool, true, false, cond, eqb, ◌&&◌}
use Rattle.std.proofs.Common.{List, [], ◌∷◌, refl, sym, ◌∙◌, ap, arith}
use Rattle.std.specs.Prelude.{nat_lt}
use Rattle.std.specs.List.{range_with_len}
use Rattle.std.proofs.lemmas.Bool.{cond-true, lt-ltb}
use Rattle.std.proofs.lemmas.List.{length-map}
use Rattle.std.proofs.lemmas.List.Sums.{sum_by-cons}
use Rattle.std.proofs.lemmas.List.FromFn.{length-range_with_len}
use Rattle.fx_designs.specs.Galois.{IsField}
use Rattle.fx_designs.specs.Vectors.{IsVector, plus, scale, zeros, weight, combination, vectors_of}
use Rattle.fx_laws.proofs.Space.{AreVectors, plus-vector, combination-vector}
use Rattle.fx_laws.proofs.Forms.{scale-one}
use Rattle.fx_laws.proofs.Sums.{sum_by-same, sum_by-constant}
use Rattle.fx_laws.proofs.CanonicalTest.{rows-vectors}
use Rattle.fx_strata.specs.Words.{words_in}
use Rattle.fx_strata.specs.Designs.{Strata}
use Rattle.fx_strata.specs.Sums.{is_unclear_sum}
use Rattle.fx_strata.specs.Canonical.{base, unclear}
use Rattle.fx_strata.proofs.Totals.{total, rest, total-cons, total-same, total-changed, total-scaled, codes-split}
use Rattle.fx_strata.proofs.Totals.{none-first, counted}
use Rattle.fx_strata.proofs.Live.{scaling, are-scalars, each-scaled, span-scaled, effects-parts, spread-scaled}

module _ (q m : ℕ) (f : IsField q) (g : ℕ → List ℕ → ℕ)
    (same : (c j : ℕ) (v : List ℕ) → 0 < c → c < q → IsVector q m v → g j (scale q c v) ≡ g j v)
    (none : (v : List ℕ) → g 0 v ≡ 0) where
  -- each code but 0 of a row counts as much as 1
  each-code : (c : ℕ) → 0 < c → c < q → (r : List ℕ) → IsVector q m r → (rows : List (List ℕ)) → AreVectors q m rows
      → total q m f (rest q m f g r c) rows ≡ total q m f (rest q m f g r 1) rows
  each-code c pos low r hr rows h =
      sym (total-scaled q m f (rest q m f g r c) _ rows (are-scalars q m f c pos low rows)
      (length-map rows (λ v. c)))
      ∙ ap (total q m f (rest q m f g r c)) (each-scaled q m f c rows)
      ∙ total-changed q m f (rest q m f g r c) _ (scaling q m f c pos low) rows h
      ∙ total-same q m f (rest q m f g r 1) (λ j v. rest q m f g r c j (scale q c v)) rows rows refl
      (λ u hu.
      let v = combination q m u rows in
      let hv = combination-vector q m f u rows h in
      let bit : cond {A = ℕ} (nat_lt 0 c) 1 0 ≡ 1 = cond-true (nat_lt 0 c) 1 0 (lt-ltb 0 c pos) in
      cc (
        bit,
        (scaling q m f c pos low).sums r v hr hv,
        same c (1 + weight u) (plus q r v) pos low
            (plus-vector q m f r v hr hv),
        scale-one q m f r hr,
      ))

  pub divides : (rows : List (List ℕ)) → AreVectors q m rows → (k : ℕ) × (total q m f g rows ≡ (q - 1) * k)
  divides [] h = (
    0,
    sum_by-cons (λ u. g (weight u) (combination q m u [])) [] []
        ∙ (omega (arith, none (zeros m))),
  )
  divides (r ∷ rows) h =
      let before = divides rows h.1 in
      let t = total q m f (rest q m f g r 1) rows in
      let all =
      total-cons q m f g r rows ∙ codes-split q m f (λ c. total q m f (rest q m f g r c) rows) in
      let others =
      sum_by-same (λ c. total q m f (rest q m f g r c) rows) (λ c. t) 1 (q - 1)
      (λ c low high. each-code c (omega arith) (omega arith) r h.0 rows h.1)
      ∙ sum_by-constant t (range_with_len 1 (q - 1)) ∙ ap (λ n. n * t) (length-range_with_len 1 (q - 1)) in
      (before.0 + t, cc ((none-first q m f g r rows h.0 h.1), together (q - 1) before.0 t))
    where
      together : (a b c : ℕ) → a * b + a * c ≡ a * (b + c)
      together a b c = grind arith

module _ (x : Strata) (f : IsField x.q) (room : x.h ≤ x.m) (rows : List ℕ) where
  abbrev F : List (List ℕ)
  F = vectors_of x.q x.m rows

  hF : AreVectors x.q x.m F
  hF = rows-vectors x.q x.m f rows

  unclear-scaled : (a : ℕ) (v : List ℕ) → 0 < a → a < x.q → IsVector x.q x.m v
      → is_unclear_sum x (base x) F (scale x.q a v) ≡ is_unclear_sum x (base x) F v
  unclear-scaled a v pos low hv =
      cc (
        span-scaled x f room [] [] a v pos low hv,
        effects-parts x.q x.m f F (scale x.q a v),
        spread-scaled x.q x.m f
            a pos low F hF 1 v hv,
        spread-scaled x.q x.m f a pos low F hF 2 v hv,
        effects-parts x.q x.m f F v,
      )

  pub unclear-divides : (k : ℕ) × (unclear x rows ≡ (x.q - 1) * k)
  unfolding words_in
  unclear-divides =
      divides x.q x.m f (counted x.q x.m f (is_unclear_sum x (base x) F) 2)
      (λ c j v pos low hv. ap (λ b. cond {A = ℕ} (b && eqb j 2) 1 0) (unclear-scaled c v pos low hv))
      (λ v. and-none (is_unclear_sum x (base x) F v)) F hF
    where
      and-none : (b : Bool) → cond {A = ℕ} (b && eqb 0 2) 1 0 ≡ 0
      and-none true = refl
      and-none false = refl
