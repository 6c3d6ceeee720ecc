-- Formed rows, each 0 or normal, are canonical.
use Rattle.std.proofs.Common.{ℕ, ◌≡◌, ◌<◌, ◌≤◌, ◌+◌, ◌-◌, min, zero, suc, Bool, true, false, cond, eqb, List, [], ◌∷◌}
use Rattle.std.proofs.Common.{◌++◌, map, length, take, append_assoc, refl, sym, subst, ◌∙◌, ap, arith, inl, inr, ◌⊎◌}
use Rattle.std.specs.Prelude.{nat_lt}
use Rattle.std.specs.List.{AllByRecursion}
use Rattle.std.proofs.lemmas.List.{append-nil, take-append-le}
use Rattle.std.proofs.lemmas.List.Elements.{All-get_or, All-from_recursion}
use Rattle.std.proofs.lemmas.Bool.{cases_eq, eq-eqb, ne_eqb, both_ways}
use Rattle.std.proofs.lemmas.Bool.Decides.{nat_tests}
use Rattle.std.proofs.lemmas.List.Sums.{sum_by-cons}
use Rattle.fx_base.proofs.Lists.{each-append}
use Rattle.fx_designs.specs.Galois.{mul, inv, IsField}
use Rattle.fx_designs.specs.Vectors.{dot, scale, zeros, IsVector, weight, last_nonzero}
use Rattle.fx_laws.specs.Facts.{IsNormal}
use Rattle.fx_designs.specs.Spans.{in_span, rank_after, rank_of}
use Rattle.fx_laws.specs.Changes.{unit, IsShort, IsFormedTo}
use Rattle.fx_laws.specs.Canonical.{IsCanonical, row}
use Rattle.fx_laws.specs.Scalings.{AreScalars, scaled}
use Rattle.fx_laws.proofs.Linear.{dot_code, dot-scale, dot-zeros}
use Rattle.fx_laws.proofs.Space.{ext, zeros-vector, scale-vector, AreVectors}
use Rattle.fx_laws.proofs.Separation.{inv-mul, one-mul}
use Rattle.fx_laws.proofs.Changes.{unit-vector, mul-zero-either}
use Rattle.fx_laws.proofs.Ranks.{spans-none, spans-old, spans-new, spans-short, unit-long, in_span-holds, in_span-none}
use Rattle.fx_laws.proofs.Ranks.{short-scale, Spans}
use Rattle.fx_laws.proofs.Weights.{last_nonzero-zeros}

pub inv-positive : (q : ℕ) (f : IsField q) (a : ℕ) → 0 < a → a < q → 0 < inv q a
inv-positive q f a some h =
    elim (cases_eq (inv q a) 0) [
      | inl e ↦ absurd (let bad : 1 ≡ 0 = sym (f.mul_inv a some h) ∙ ap (mul q a) e ∙ f.mul_zero a in omega arith)
      | inr ne ↦ omega arith
    ]

pub last-code : (q : ℕ) (f : IsField q) (r : List ℕ) → AllByRecursion (λ a. a < q) r → last_nonzero r < q
last-code q f [] h = omega (arith, f.more_than_one)
last-code q f (a ∷ r) h =
    elim (cases_eq (last_nonzero r) 0) [
      | inl e ↦ rw (eq-eqb _ _ e) h.0
      | inr ne ↦ rw (ne_eqb _ _ ne) (last-code q f r h.1)
    ]

-- a vector that is not zero has a last nonzero code
pub last_nonzero-positive : (v : List ℕ) → 0 < weight v → 0 < last_nonzero v
last_nonzero-positive [] some = absurd (omega arith)
last_nonzero-positive (a ∷ v) some =
    let parts = sum_by-cons (λ c. cond (nat_lt 0 c) 1 0) a v in
    elim (cases_eq (last_nonzero v) 0) [
      | inl e ↦
          rw (eq-eqb _ _ e) (elim (cases_eq (weight v) 0) [
            | inl none ↦ let one : 0 < cond (nat_lt 0 a) 1 0 = omega arith in grind (arith, nat_tests)
            | inr more ↦ absurd (omega (arith, last_nonzero-positive v (omega arith)))
          ])
      | inr ne ↦ rw (ne_eqb _ _ ne) (omega arith)
    ]

-- the last nonzero code of a multiple
pub last-scale : (q : ℕ) (f : IsField q) (c : ℕ) (r : List ℕ) → 0 < c → c < q → AllByRecursion (λ a. a < q) r
    → last_nonzero (scale q c r) ≡ mul q c (last_nonzero r)
last-scale q f c [] some hc h = sym (f.mul_zero c)
last-scale q f c (a ∷ r) some hc h =
    let rest = last-scale q f c r some hc h.1 in
    elim (cases_eq (last_nonzero r) 0) [
      | inl e ↦
          let none : last_nonzero (scale q c r) ≡ 0 = cc (rest, e, f.mul_zero c) in
          rw (none, e) refl
      | inr ne ↦
          let some' : last_nonzero (scale q c r) ≡ 0 → ⊥ =
          λ z. ne (mul-zero-either q f (last_nonzero r) c (last-code q f r h.1) hc some
          (f.mul_comm (last_nonzero r) c ∙ sym rest ∙ z)) in
          rw (ne_eqb _ _ some', ne_eqb _ _ ne) rest
    ]

module _ (q m : ℕ) (f : IsField q) where
  pub rank-snoc : (bs xs : List (List ℕ)) (r : List ℕ)
      → rank_after q m bs (xs ++ r ∷ []) ≡ rank_after q m bs xs + cond (in_span q m (bs ++ xs) r) 0 1
  rank-snoc bs [] r = ap (λ z. cond (in_span q m z r) 0 1 + 0) (sym (append-nil bs)) ∙ omega arith
  rank-snoc bs (x ∷ xs) r =
      ap (λ n. cond (in_span q m bs x) 0 1 + n)
      (rank-snoc (bs ++ x ∷ []) xs r ∙ ap (λ z. rank_after q m (bs ++ x ∷ []) xs + cond (in_span q m z r) 0 1)
      (append_assoc bs (x ∷ []) xs))
      ∙ omega arith

  -- a row at its place
  pub new_at : (bs rows : List (List ℕ)) (k n i : ℕ) → Spans q m k bs → rank_of q m bs ≡ k → AreVectors q m rows
      → IsFormedTo m k rows n → i < length rows
      → in_span q m (bs ++ take i rows) (row rows i) ≡ false → row rows i ≡ unit m (rank_of q m (bs ++ take i rows))
  new_at bs [] k n i h rk hr formed below out = absurd (omega arith)
  new_at bs (r ∷ rows) k n zero h rk hr formed below out =
      elim formed [
        | inl s ↦ (absurd
            (both_ways (in_span q m bs r) (rw (append-nil bs) at out)
            (in_span-holds q m f bs r (h.all r hr.0 s.0))))
        | inr s ↦ cc (s.1, append-nil bs, rk)
      ]
  new_at bs (r ∷ rows) k n (suc i) h rk hr formed below out =
      let same : (bs ++ r ∷ []) ++ take i rows ≡ bs ++ r ∷ take i rows = append_assoc bs (r ∷ []) (take i rows) in
      let out' : in_span q m ((bs ++ r ∷ []) ++ take i rows) (row rows i) ≡ false =
      rw same out in
      let go : (k' : ℕ) → Spans q m k' (bs ++ r ∷ []) → rank_of q m (bs ++ r ∷ []) ≡ k' → IsFormedTo m k' rows n
      → row rows i ≡ unit m (rank_of q m (bs ++ r ∷ take i rows)) =
      λ k' h' rk' formed'. cc (new_at (bs ++ r ∷ []) rows k' n i h' rk' hr.1 formed' (omega arith) out', same) in
      elim formed [
        | inl s ↦
            let is = in_span-holds q m f bs r (h.all r hr.0 s.0) in
            go k (spans-old q m f k bs r hr.0 h s.0) (rank-snoc [] bs r ∙ (rw (is, rk) (omega arith))) s.1
        | inr s ↦
            let new : r ≡ unit m k = s.1 in
            let is = in_span-none q m f bs r h.vectors hr.0
            (λ i. unit-long m k s.0 (subst (IsShort k) new (spans-short q m f k bs r h i))) in
            go (suc k) (rw new (spans-new q m f k bs s.0 h))
            (rank-snoc [] bs r ∙ (rw (is, rk) (omega arith))) s.2
      ]

  -- a row raises the rank by 1 at most
  pub rank-reach : (bs rows : List (List ℕ)) (k : ℕ) → k ≤ length rows
      → rank_after q m bs rows ≤ rank_after q m bs (take k rows) + (length rows - k)
  rank-reach bs [] k h = omega arith
  rank-reach bs (r ∷ rows) zero h =
      let rest = rank-reach (bs ++ r ∷ []) rows zero (omega arith) in
      let one : (b : Bool) → cond b 0 1 ≤ 1 =
      λ b. elim b as (λ b. cond b 0 1 ≤ 1) [ true ↦ omega arith | false ↦ omega arith ] in
      let here = one (in_span q m bs r) in
      omega arith
  rank-reach bs (r ∷ rows) (suc k) h =
      let rest = rank-reach (bs ++ r ∷ []) rows k (omega arith) in
      omega (arith, rest)

  -- the scalar that makes a row normal
  abbrev pub normal_factor : List ℕ → ℕ
  normal_factor r = cond (eqb (last_nonzero r) 0) 1 (inv q (last_nonzero r))

  last-zero : (n : ℕ) (r : List ℕ) → length r ≡ n → last_nonzero r ≡ 0 → r ≡ zeros n
  last-zero zero [] e h = refl
  last-zero (suc n) [] e h = absurd (omega arith)
  last-zero zero (a ∷ r) e h = absurd (omega arith)
  last-zero (suc n) (a ∷ r) e h =
      elim (cases_eq (last_nonzero r) 0) [
        | inl z ↦ (let first : a ≡ 0 = (let h' = rw z at h in h') in rw (first, last-zero n r (omega arith) z) refl)
        | inr ne ↦ (let e' = ne_eqb _ _ ne in let h' = rw e' at h in absurd (ne h'))
      ]

  pub last-unit : (n k : ℕ) → k < n → last_nonzero (unit n k) ≡ 1
  last-unit zero k h = absurd (omega arith)
  last-unit (suc n) zero h = rw (last_nonzero-zeros n) refl
  last-unit (suc n) (suc k) h = rw (last-unit n k (omega arith)) refl

  normal_factor-code : (r : List ℕ) → AllByRecursion (λ a. a < q) r → (0 < normal_factor r) × (normal_factor r < q)
  normal_factor-code r h =
      elim (cases_eq (last_nonzero r) 0) [
        | inl e ↦ rw (eq-eqb _ _ e) (omega arith, f.more_than_one)
        | inr ne ↦
            rw (ne_eqb _ _ ne)
            (inv-positive q f (last_nonzero r) (omega arith) (last-code q f r h), f.inv_code (last_nonzero r))
      ]

  -- each row scaled to a normal one
  pub normal_scaled : (r : List ℕ) → IsVector q m r
      → (scale q (normal_factor r) r ≡ zeros m) ⊎ IsNormal (scale q (normal_factor r) r)
  normal_scaled r h =
      elim (cases_eq (last_nonzero r) 0) [
        | inl e ↦ inl
            (let z = last-zero m r h.len e in
            cc (
              z,
              ext q m f _ _ (scale-vector q m f (normal_factor r) (zeros m) (zeros-vector q m f))
                  (zeros-vector q m f)
                  (λ p. dot-scale q f (normal_factor r) (zeros m) p
                  ∙ (rw (dot-zeros q f m p) (f.mul_zero (normal_factor r)))),
            ))
        | inr ne ↦
            let c = normal_factor-code r h.codes in
            inr (last-scale q f (normal_factor r) r c.0 c.1 h.codes ∙
            (rw (ne_eqb _ _ ne) (inv-mul q f (last_nonzero r) (omega arith) (last-code q f r h.codes))))
      ]

  pub scale-one : (r : List ℕ) → IsVector q m r → scale q 1 r ≡ r
  scale-one r h =
      ext q m f _ _ (scale-vector q m f 1 r h) h (λ p. dot-scale q f 1 r p ∙ one-mul q f (dot q r p) (dot_code q f r p))

  normal-unit : (k : ℕ) → k < m → scale q (normal_factor (unit m k)) (unit m k) ≡ unit m k
  normal-unit k h =
      let one : inv q 1 ≡ 1 = sym (one-mul q f (inv q 1) (f.inv_code 1)) ∙ f.mul_inv 1 (omega arith) f.more_than_one in
      rw (last-unit m k h, one) (scale-one (unit m k) (unit-vector q m k f))

  pub factors-scalars : (rows : List (List ℕ)) → AreVectors q m rows → AreScalars q (map normal_factor rows)
  factors-scalars [] h = tt
  factors-scalars (r ∷ rows) h = (normal_factor-code r h.0.codes, factors-scalars rows h.1)

  pub formed-scaled : (k n : ℕ) (rows : List (List ℕ)) → IsFormedTo m k rows n
      → IsFormedTo m k (scaled q (map normal_factor rows) rows) n
  formed-scaled k n [] h = h
  formed-scaled k n (r ∷ rows) h = elim h [
    | inl s ↦ inl (short-scale q k (normal_factor r) f r s.0, formed-scaled k n rows s.1)
    | inr s ↦ inr (
      s.0,
      rw s.1 (normal-unit k s.0),
      formed-scaled (suc k) n
          rows s.2,
    )
  ]

  pub each_normal : (rows : List (List ℕ)) → AreVectors q m rows
      → AllByRecursion (λ r. (r ≡ zeros m) ⊎ IsNormal r) (scaled q (map normal_factor rows) rows)
  each_normal [] h = tt
  each_normal (r ∷ rows) h = (normal_scaled r h.0, each_normal rows h.1)

  -- formed rows, each 0 or normal
  pub formed-canonical : (xs ys : List (List ℕ)) (n : ℕ) → AreVectors q m xs → AreVectors q m ys
      → IsFormedTo m 0 (xs ++ ys) n → AllByRecursion (λ r. (r ≡ zeros m) ⊎ IsNormal r) (xs ++ ys)
      → min (length xs) m ≤ rank_of q m xs → IsCanonical q m (length xs) (xs ++ ys)
  formed-canonical xs ys n hx hy formed normal enough = record {
    new_is_unit =
        λ k below out. new_at [] (xs ++ ys) 0 n k (spans-none q m f) refl
        (each-append (λ r. IsVector q m r) xs ys hx hy) formed below out;
    old_is_normal =
        λ k below is. All-get_or (λ r. (r ≡ zeros m) ⊎ IsNormal r) (xs ++ ys) k [] below
        (All-from_recursion _ (xs ++ ys) normal);
    reach = λ k low below. (let h = rank-reach [] xs k low in let e = take-append-le k xs ys low in rw e (omega arith));
  }
