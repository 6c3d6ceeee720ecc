-- What it is that vectors are aliased, told from their sums over the rules.
use Rattle.std.proofs.Common.{ℕ, zero, suc, ◌≤◌, ◌≡◌, ◌<◌, ◌+◌, ◌-◌, ◌*◌, ◌↔◌, Bool, true, eqb, List, [], ◌∷◌, refl}
use Rattle.std.proofs.Common.{sym, subst, ◌∙◌, ap, ap₂, arith, inl, inr, mul-pos}
use Rattle.std.specs.Bool.{Decides}
use Rattle.std.specs.List.{range_with_len, AllByRecursion}
use Rattle.std.proofs.lemmas.Bool.{eq-eqb, eqb-true, ltb-true, lt-ltb, cases_eq, ne_eqb}
use Rattle.fx_vectors.proofs.Normals.{normal-scale, one-normal}
use Rattle.std.proofs.lemmas.List.Folds.{list_any_at}
use Rattle.std.proofs.lemmas.List.FromFn.{length-range_with_len, get_or-range_with_len}
use Rattle.fx_designs.specs.Galois.{IsField, number, digits, mul, neg, inv, add}
use Rattle.fx_designs.specs.Vectors.{IsVector, dot, scale, minus, zeros, combination, vectors_of, last_nonzero, weight}
use Rattle.fx_designs.specs.Runs.{is_constant, runs_of, levels_at}
use Rattle.fx_laws.proofs.Linear.{dot-plus, dot-scale, dot-levels}
use Rattle.fx_laws.proofs.Space.{ext, plus-vector, scale-vector, combination-vector, AreVectors}
use Rattle.fx_laws.proofs.Constant.{constant_sum}
use Rattle.fx_laws.proofs.CanonicalTest.{rows-vectors}
use Rattle.fx_laws.proofs.Tests.{some_item, bool_same}
use Rattle.fx_laws.proofs.Codes.{digits-number, number-zeros, number-weight}
use Rattle.fx_laws.proofs.Separation.{inv-mul}
use Rattle.fx_laws.proofs.Scalings.{mul-positive}
use Rattle.fx_laws.proofs.Forms.{inv-positive, last-code, scale-one}
use Rattle.fx_reduction.proofs.Cancelling.{negated_twice, cancelled}
use Rattle.fx_designs.specs.Aliases.{is_aliased}
use Rattle.fx_laws.proofs.Weights.{last_nonzero-zeros}
use Rattle.fx_alias.specs.Classes.{IsMultiple, class_number}

module _ (q : ℕ) (f : IsField q) where
  -- the sum of a difference
  sum-minus : (m c : ℕ) (u v : List ℕ) (rows : List (List ℕ)) → AreVectors q m rows
      → combination q m (minus q u (scale q c v)) rows
      ≡ minus q (combination q m u rows) (scale q c (combination q m v rows))
  sum-minus m c u v rows h =
      ext q m f _ _ (combination-vector q m f (minus q u (scale q c v)) rows h)
      (plus-vector q m f _ _ (combination-vector q m f u rows h)
      (scale-vector q m f (neg q 1) _ (scale-vector q m f c _ (combination-vector q m f v rows h))))
      (λ p. sym (dot-levels q f m (minus q u (scale q c v)) rows p)
      ∙ dot-plus q f u (scale q (neg q 1) (scale q c v)) (levels_at q rows p)
      ∙ ap (add q (dot q u (levels_at q rows p)))
      (dot-scale q f (neg q 1) (scale q c v) (levels_at q rows p) ∙ ap (mul q (neg q 1))
      (dot-scale q f c v (levels_at q rows p)))
      ∙ ap₂ (λ a b. add q a (mul q (neg q 1) (mul q c b))) (dot-levels q f m u rows p) (dot-levels q f m v rows p)
      ∙ ap (λ b. add q (dot q (combination q m u rows) p) (mul q (neg q 1) b))
      (sym (dot-scale q f c (combination q m v rows) p))
      ∙ ap (add q (dot q (combination q m u rows) p))
      (sym (dot-scale q f (neg q 1) (scale q c (combination q m v rows)) p))
      ∙ sym (dot-plus q f (combination q m u rows) (scale q (neg q 1) (scale q c (combination q m v rows))) p))

  module _ (m : ℕ) (numbers u v : List ℕ) where
    abbrev rows : List (List ℕ)
    rows = vectors_of q m numbers

    abbrev s : List ℕ
    s = combination q m u rows

    abbrev t : List ℕ
    t = combination q m v rows

    hs : IsVector q m s
    hs = combination-vector q m f u rows (rows-vectors q m f numbers)

    ht : IsVector q m t
    ht = combination-vector q m f v rows (rows-vectors q m f numbers)

    -- u - c v is constant exactly where the sum of u is c times that of v
    constant_multiple : (c : ℕ) → Decides (is_constant q (minus q u (scale q c v)) (runs_of q m rows)) (s ≡ scale q c t)
    constant_multiple c =
        let both = constant_sum q f (minus q u (scale q c v)) m numbers in
        let split = sum-minus m c u v rows (rows-vectors q m f numbers) in
        let hc = scale-vector q m f c t ht in
        let none = negated_twice q f m _ hc in (
          λ e. cancelled q f m s _ _ hs hc
              (scale-vector q m f (neg q 1) _ hc) (sym split ∙ both.0 e ∙ sym none),
          λ e. both.1 (split ∙ ap (λ x. minus q x (scale q c t)) e ∙ none),
        )

    -- aliased are those whose sums are multiples
    pub aliased_multiple : (is_aliased q (runs_of q m rows) u v ≡ true) ↔ IsMultiple q s t
    unfolding is_aliased
    aliased_multiple =
        let test : ℕ → Bool = λ c. is_constant q (minus q u (scale q c v)) (runs_of q m rows) in (
          λ e. let found =
              some_item test _ _
              (range_codes 1 (q - 1) (omega arith) (omega arith)) e in
              record {
                factor = found.0;
                nonzero = found.1.0;
                code = found.1.1;
                is = (constant_multiple found.0).0 found.2;
              },
          λ h. list_any_at test _ (h.factor - 1) 0
              (omega (arith, length-range_with_len 1 (q - 1)))
              (subst (λ c. test c ≡ true)
              (sym (get_or-range_with_len 1 (q - 1) (h.factor - 1) 0 (omega arith) ∙ omega
              arith)) ((constant_multiple h.factor).1 h.is)),
        )
      where
        range_codes : (a n : ℕ) → 0 < a → a + n ≤ q → AllByRecursion (λ c. (0 < c) × (c < q)) (range_with_len a n)
        range_codes a zero low high = tt
        range_codes a (suc n) low high = ((low, omega arith), range_codes (a + 1) n (omega arith) (omega arith))

module _ (q : ℕ) (f : IsField q) where
  scale-scale : (c d : ℕ) (v : List ℕ) → scale q c (scale q d v) ≡ scale q (mul q c d) v
  scale-scale c d [] = refl
  scale-scale c d (a ∷ v) = cc (f.mul_assoc c d a, scale-scale c d v)

  product-some : (a b : ℕ) → 0 < a → a < q → 0 < b → b < q → 0 < mul q a b
  product-some a b a1 aq b1 bq = ltb-true 0 _ (mul-positive q f a b a1 aq bq ∙ lt-ltb 0 b b1)

  number-some : (v : List ℕ) → 0 < last_nonzero v → 0 < number q v
  number-some [] h = h
  number-some (a ∷ v) h =
      elim (cases_eq (last_nonzero v) 0) [
        | inl e ↦ let first : last_nonzero (a ∷ v) ≡ a = rw (eq-eqb _ 0 e) in omega arith
        | inr ne ↦
            let more = number-some v (omega arith) in
            let positive : 0 < q * number q v = mul-pos (omega (arith, f.more_than_one)) more in omega arith
      ]

  module _ (m : ℕ) (s t : List ℕ) (hs : IsVector q m s) (ht : IsVector q m t) (ns : 0 < last_nonzero s)
      (nt : 0 < last_nonzero t) where
    -- vectors of one number are multiples
    multiple_of_one_number : class_number q s ≡ class_number q t → IsMultiple q s t
    unfolding class_number
    multiple_of_one_number e =
        let a1 = inv-positive q f _ ns (last-code q f s hs.codes) in
        let same : scale q (inv q (last_nonzero s)) s ≡ scale q (inv q (last_nonzero t)) t =
        sym (digits-number q m _ (scale-vector q m f (inv q (last_nonzero s)) s hs)) ∙ ap (digits q m) e ∙ digits-number
        q m _ (scale-vector q m f (inv q (last_nonzero t)) t ht) in
        let back = inv q (inv q (last_nonzero s)) in
        record {
          factor = mul q back (inv q (last_nonzero t));
          nonzero = product-some back _
              (inv-positive q f _ a1 (f.inv_code (last_nonzero s)))
              (f.inv_code (inv q (last_nonzero s))) (inv-positive q f _ nt (last-code q f t ht.codes))
              (f.inv_code (last_nonzero t));
          code = f.mul_code back (inv q (last_nonzero t));
          is = cc (
            scale-one q m f s hs,
            inv-mul q f _ a1 (f.inv_code (last_nonzero s)),
            scale-scale back
                (inv q (last_nonzero s)) s,
            scale-scale back
                (inv q (last_nonzero t)) t,
          );
        }

    -- multiples have one number
    number_of_multiples : IsMultiple q s t → class_number q s ≡ class_number q t
    unfolding class_number
    number_of_multiples h =
        let x = inv q (last_nonzero s) in
        let moved : scale q x s ≡ scale q (mul q x h.factor) t = cc (scale-scale x h.factor t) in
        cc (one-normal q f t _ (inv q (last_nonzero t)) ht.codes
        (product-some x h.factor (inv-positive q f _ ns (last-code q f s hs.codes)) (f.inv_code (last_nonzero s))
        h.nonzero h.code) (f.mul_code x h.factor) (inv-positive q f _ nt (last-code q f t ht.codes))
        (f.inv_code (last_nonzero t)) (ap last_nonzero (sym moved) ∙ normal-scale q f s hs.codes ns)
        (normal-scale q f t ht.codes nt))

    -- so a test of numbers tells multiples
    pub numbers_tell : (test : Bool) → (test ≡ true) ↔ IsMultiple q s t
        → test ≡ eqb (class_number q s) (class_number q t)
    numbers_tell test both =
        bool_same test _ (λ e. eq-eqb _ _ (number_of_multiples (both.0 e)))
        (λ e. both.1 (multiple_of_one_number (eqb-true _ _ e)))

  -- a vector that is not zero has no class number 0, and zeros have it
  pub some_number : (m : ℕ) (s : List ℕ) → IsVector q m s → 0 < last_nonzero s → 0 < class_number q s
  unfolding class_number
  some_number m s h some =
      number-some _ (omega (arith, normal-scale q f s h.codes some))

  scale-zeros : (c n : ℕ) → scale q c (zeros n) ≡ zeros n
  scale-zeros c zero = refl
  scale-zeros c (suc n) = cc (f.mul_zero c, scale-zeros c n)

  pub zero_number : (m : ℕ) → class_number q (zeros m) ≡ 0
  unfolding class_number
  zero_number m = cc (scale-zeros (inv q (last_nonzero (zeros m))) m, number-zeros q m)

  -- a vector without a last nonzero code is zeros
  pub none_zero : (m : ℕ) (s : List ℕ) → IsVector q m s → last_nonzero s ≡ 0 → s ≡ zeros m
  none_zero zero [] h e = refl
  none_zero zero (a ∷ s) h e = absurd (let l = h.len in omega arith)
  none_zero (suc m) [] h e = absurd (let l = h.len in omega arith)
  none_zero (suc m) (a ∷ s) h e =
      elim (cases_eq (last_nonzero s) 0) [
        | inl z ↦
            let first : last_nonzero (a ∷ s) ≡ a = rw (eq-eqb _ 0 z) in
            cc (none_zero m s (record { len = (let l = h.len in omega arith); codes = h.codes.1 }) z)
        | inr nz ↦ absurd (nz (rw (ne_eqb _ 0 nz) at e))
      ]

  -- no multiple of zeros is another
  pub multiple_of_zeros : (m : ℕ) (s t : List ℕ) → IsMultiple q s t → t ≡ zeros m → last_nonzero s ≡ 0
  multiple_of_zeros m s t h e =
      cc (scale-zeros h.factor m, last_nonzero-zeros m)

  -- a vector without nonzero codes has the class number 0
  pub weightless_number : (m : ℕ) (s : List ℕ) → IsVector q m s → weight s ≡ 0 → class_number q s ≡ 0
  weightless_number m s h e =
      elim (cases_eq (last_nonzero s) 0) [
        | inl z ↦ cc (none_zero m s h z, zero_number m)
        | inr nz ↦ absurd (omega (arith, number-some s (omega arith), number-weight q s e))
      ]
