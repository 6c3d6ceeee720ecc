-- Scaling each row by a nonzero code scales each zero sum, entry by entry.
use Rattle.std.proofs.Common.{ℕ, ◌≡◌, ◌<◌, zero, suc, cond, eqb, ◌&&◌, List, [], ◌∷◌, length, refl, sym, subst}
use Rattle.std.proofs.Common.{◌∙◌, ap, arith, inl, inr}
use Rattle.std.specs.Prelude.{nat_lt}
use Rattle.std.specs.List.{AllByRecursion, sum_by}
use Rattle.std.proofs.lemmas.List.Sums.{sum_by-cons}
use Rattle.std.proofs.lemmas.List.Elements.{recursion_from_All}
use Rattle.std.proofs.lemmas.Bool.{cases_eq}
use Rattle.std.proofs.lemmas.Bool.Decides.{nat_tests}
use Rattle.fx_designs.specs.Galois.{mul, inv, IsField, number, codes_of}
use Rattle.fx_designs.specs.Vectors.{scale, combination, IsVector, weight}
use Rattle.fx_designs.specs.Runs.{points}
use Rattle.fx_laws.specs.Raises.{IsAllowed, words}
use Rattle.fx_laws.specs.Scalings.{AreScalars, scaled, times, IsScalable}
use Rattle.fx_laws.proofs.Sums.{sum_by-ext}
use Rattle.fx_laws.proofs.Space.{scale-vector, AreVectors}
use Rattle.fx_laws.proofs.Shift.{all-points, sum_by-turn, points-sum}
use Rattle.fx_laws.proofs.Separation.{inv-mul, one-mul}
use Rattle.fx_laws.proofs.Changes.{mul-zero-either}
use Rattle.fx_laws.proofs.Raises.{sum_by-each}

module _ (q : ℕ) (f : IsField q) where
  pub scale-scale : (a c : ℕ) (v : List ℕ) → scale q a (scale q c v) ≡ scale q (mul q c a) v
  scale-scale a c [] = refl
  scale-scale a c (x ∷ v) = rw (sym (f.mul_assoc a c x) ∙ ap (λ z. mul q z x) (f.mul_comm a c), scale-scale a c v) refl

  pub scaled-combination : (m : ℕ) (cs u : List ℕ) (rows : List (List ℕ)) → length cs ≡ length rows
      → length u ≡ length rows → combination q m u (scaled q cs rows) ≡ combination q m (times q cs u) rows
  scaled-combination m [] [] [] e e' = refl
  scaled-combination m [] u (r ∷ rows) e e' = absurd (omega arith)
  scaled-combination m (c ∷ cs) u [] e e' = absurd (omega arith)
  scaled-combination m cs [] (r ∷ rows) e e' = absurd (omega arith)
  scaled-combination m cs (a ∷ u) [] e e' = absurd (omega arith)
  scaled-combination m (c ∷ cs) (a ∷ u) (r ∷ rows) e e' =
      rw (scale-scale a c r, scaled-combination m cs u rows (omega arith) (omega arith)) refl

  pub times-vector : (n : ℕ) (cs u : List ℕ) → length cs ≡ n → IsVector q n u → IsVector q n (times q cs u)
  times-vector n [] [] e h = h
  times-vector n [] (a ∷ u) e h = absurd (let e' = h.len in omega arith)
  times-vector n (c ∷ cs) [] e h = absurd (let e' = h.len in omega arith)
  times-vector zero (c ∷ cs) (a ∷ u) e h = absurd (let e' = h.len in omega arith)
  times-vector (suc n) (c ∷ cs) (a ∷ u) e h =
      let rest =
      times-vector n cs u (omega arith) (record { len = (let e' = h.len in omega arith); codes = h.codes.1 }) in
      record { len = (let e' = rest.len in omega arith); codes = (f.mul_code c a, rest.codes) }

  pub scaled-length : (cs : List ℕ) (rows : List (List ℕ)) → length cs ≡ length rows
      → length (scaled q cs rows) ≡ length rows
  scaled-length [] [] e = refl
  scaled-length [] (r ∷ rows) e = absurd (omega arith)
  scaled-length (c ∷ cs) [] e = absurd (omega arith)
  scaled-length (c ∷ cs) (r ∷ rows) e = (let e' = scaled-length cs rows (omega arith) in omega arith)

  pub scaled-vectors : (m : ℕ) (cs : List ℕ) (rows : List (List ℕ)) → AreVectors q m rows
      → AreVectors q m (scaled q cs rows)
  scaled-vectors m [] rows h = tt
  scaled-vectors m (c ∷ cs) [] h = tt
  scaled-vectors m (c ∷ cs) (r ∷ rows) h = (scale-vector q m f c r h.0, scaled-vectors m cs rows h.1)

  -- a multiple by a nonzero code is 0 exactly where the code is
  pub mul-positive : (c a : ℕ) → 0 < c → c < q → a < q → nat_lt 0 (mul q c a) ≡ nat_lt 0 a
  mul-positive c a some hc ha =
      elim (cases_eq a 0) [
        | inl e ↦ (let none : mul q c a ≡ 0 = cc (e, f.mul_zero c) in rw (none, e) refl)
        | inr ne ↦ elim (cases_eq (mul q c a) 0) [
          | inl z ↦ absurd (ne (mul-zero-either q f a c ha hc some (f.mul_comm a c ∙ z)))
          | inr nz ↦ grind (arith, nat_tests)
        ]
      ]

  pub times-weight : (cs u : List ℕ) → AreScalars q cs → length cs ≡ length u → AllByRecursion (λ a. a < q) u
      → weight (times q cs u) ≡ weight u
  times-weight [] [] h e hu = refl
  times-weight [] (a ∷ u) h e hu = absurd (omega arith)
  times-weight (c ∷ cs) [] h e hu = absurd (omega arith)
  times-weight (c ∷ cs) (a ∷ u) h e hu =
      cc (
        sum_by-cons (λ c. cond (nat_lt 0 c) 1 0) (mul q c a) (times q cs u),
        mul-positive c a h.0.0 h.0.1 hu.0,
        times-weight cs u h.1 (omega arith) hu.1,
        sum_by-cons (λ c. cond (nat_lt 0 c) 1 0) a u,
      )

  pub points-times : (n : ℕ) (cs : List ℕ) (g : List ℕ → ℕ) → AreScalars q cs → length cs ≡ n
      → sum_by (λ p. g (times q cs p)) (points q n) ≡ sum_by g (points q n)
  points-times zero [] g h e = refl
  points-times (suc n) [] g h e = absurd (omega arith)
  points-times zero (c ∷ cs) g h e = absurd (omega arith)
  points-times (suc n) (c ∷ cs) g h e =
      let back : (a x : ℕ) → 0 < a → a < q → x < q → mul q (inv q a) (mul q a x) ≡ x =
      λ a x some ha hx. cc (f.mul_assoc (inv q a) a x, inv-mul q f a some ha, one-mul q f x hx) in
      cc (
        points-sum q n (λ p. g (times q (c ∷ cs) p)),
        sum_by-ext _ _ (codes_of q) (λ a. points-times n cs (λ p. g (mul q c a ∷ p)) h.1 (omega arith)),
        sum_by-turn q (λ a. sum_by (λ p. g (a ∷ p)) (points q n)) (λ a. mul q c a) (λ x. mul q (inv q c) x)
            (λ a ha. f.mul_code c a) (λ x hx. f.mul_code (inv q c) x) (λ a ha. back c a h.0.0 h.0.1 ha)
            (λ x hx. sym (f.mul_assoc c (inv q c) x) ∙ ap (λ z. mul q z x) (f.mul_inv c h.0.0 h.0.1) ∙ one-mul q f x hx),
        points-sum q n g,
      )

  pub scaled_words : (m : ℕ) (cs : List ℕ) (rows : List (List ℕ)) (k : ℕ) → AreScalars q cs → length cs ≡ length rows
      → words q m (scaled q cs rows) k ≡ words q m rows k
  unfolding words
  scaled_words m cs rows k h e =
      let some : 0 < q = omega (arith, f.more_than_one) in
      let n : ℕ = length rows in
      let test : List ℕ → List ℕ → ℕ = λ v u. cond (eqb (number q v) 0 && eqb (weight u) k) 1 0 in
      subst (λ n'. sum_by (λ u. test (combination q m u (scaled q cs rows)) u) (points q n')
      ≡ sum_by (λ u. test (combination q m u rows) u) (points q n)) (sym (scaled-length cs rows e))
      (sum_by-each (λ u. test (combination q m u (scaled q cs rows)) u)
      (λ u. test (combination q m (times q cs u) rows) (times q cs u)) (points q n)
      (recursion_from_All _ (points q n)
      (all-points q n some
      (λ u. test (combination q m u (scaled q cs rows)) u
      ≡ test (combination q m (times q cs u) rows) (times q cs u))
      (λ u hu. cc (scaled-combination m cs u rows e hu.len, times-weight cs u h (e ∙ sym hu.len) hu.codes))))
      ∙ points-times n cs (λ u. test (combination q m u rows) u) h e)

  pub scaled_allowed : (m : ℕ) (Forbidden : List ℕ → List ℕ → Type 0) (cs ds : List ℕ) (factors blocks : List (List ℕ))
      → AreScalars q cs → AreScalars q ds → length cs ≡ length factors → length ds ≡ length blocks
      → IsScalable q (length factors) (length blocks) Forbidden → IsAllowed q m Forbidden factors blocks
      → IsAllowed q m Forbidden (scaled q cs factors) (scaled q ds blocks)
  scaled_allowed m Forbidden cs ds factors blocks hc hd e e' closed ok = record {
    none = λ u b hu' hb' bad z.
        let hu : IsVector q (length factors) u = rw (scaled-length cs factors e) at hu' in
        let hb : IsVector q (length blocks) b = rw (scaled-length ds blocks e') at hb' in
        ok.none (times q cs u) (times q ds b) (times-vector (length factors) cs u e hu)
        (times-vector (length blocks) ds b e' hb) (closed u b cs ds hu hb hc hd e e' bad)
        (cc (scaled-combination m cs u factors e hu.len, scaled-combination m ds b blocks e' hb.len, z));
  }
