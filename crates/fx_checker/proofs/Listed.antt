-- The listed numbers of the forbidden vectors tell which vectors over the factors are forbidden.
use Rattle.std.proofs.Common.{ℕ, ◌≡◌, ◌<◌, ◌+◌, ◌/◌, ◌^◌, zero, suc, Bool, true, ◌∙◌, List, [], ◌∷◌, map, take}
use Rattle.std.proofs.Common.{drop, length}
use Rattle.std.proofs.Common.{refl, sym, ap, arith, inl, inr}
use Rattle.std.specs.Prelude.{◌↔◌, Contains, slice_index_or, IsTrue}
use Rattle.std.specs.List.{AllByRecursion}
use Rattle.std.specs.List.Sorted.{IsNonDecreasing}
use Rattle.std.proofs.lemmas.Bool.{cases_eq, eq-eqb, ne_eqb, eqb-true, cond-true}
use Rattle.std.proofs.lemmas.List.{length-map}
use Rattle.fx_designs.specs.Galois.{IsField, number, digits, inv, mul}
use Rattle.fx_designs.specs.Vectors.{IsVector, weight, is_zero, is_normal, scale, last_nonzero}
use Rattle.fx_designs.specs.Problems.{Dimensions, Requirement}
use Rattle.fx_designs.specs.Demands.{effect_of, must_balance, is_forbidden_word}
use Rattle.fx_laws.proofs.Changes.{mul-zero-either}
use Rattle.fx_laws.proofs.Codes.{number-digits, number-zeros, digits-vector}
use Rattle.fx_laws.proofs.Forms.{inv-positive, last-code, last_nonzero-positive}
use Rattle.fx_laws.proofs.Ranks.{number-same}
use Rattle.fx_laws.proofs.Space.{scale-vector}
use Rattle.fx_laws.proofs.Tests.{bool_same}
use Rattle.fx_laws.proofs.Weights.{zeros_from_weight}
use Rattle.fx_vectors.proofs.Balances.{balances-is}
use Rattle.fx_vectors.proofs.Normals.{normal-scale}
use Rattle.fx_vectors.proofs.Supports.{bit}
use Rattle.fx_vectors.specs.Question.{CanBeAsked}
use Rattle.fx_demands.specs.declared.forbidden_list.ForbiddenVector.{ForbiddenVector}
use Rattle.fx_demands.specs.EffectVectors.{AreAllForbidden}
use Rattle.fx_demands.proofs.Completing.{weight-split}
use Rattle.fx_checker.specs.Books.{word_vector}
use Rattle.fx_checker.specs.Known.{AreListed, normal_multiple}
use Rattle.fx_demands.proofs.ForbiddenVectors.{vector-at}

-- multiples have the same factors
bit-scale : (q : ℕ) (f : IsField q) (c a : ℕ) → 0 < c → c < q → a < q → bit (mul q c a) ≡ bit a
bit-scale q f c a positive hc ha =
    elim (cases_eq a 0) [
      | inl z ↦ rw (z, f.mul_zero c)
      | inr nz ↦
          let nonzero : mul q c a ≡ 0 → ⊥ =
          λ z. nz (mul-zero-either q f a c ha hc positive (cc (f.mul_comm a c))) in
          rw (ne_eqb _ 0 nonzero, ne_eqb a 0 nz)
    ]

effect-scale : (q : ℕ) (f : IsField q) (c : ℕ) (u : List ℕ) → 0 < c → c < q → AllByRecursion (λ a. a < q) u
    → effect_of (scale q c u) ≡ effect_of u
effect-scale q f c [] positive hc h = refl
effect-scale q f c (a ∷ u) positive hc h =
    rw (bit-scale q f c a positive hc h.0, effect-scale q f c u positive hc h.1)

number-at : (words : List ForbiddenVector) (k n : ℕ) (a : ForbiddenVector) → k < length words
    → slice_index_or (map (λ (x : ForbiddenVector). x.number) words) k n ≡ (slice_index_or words k a).number
number-at [] k n a low = absurd (omega arith)
number-at (x ∷ words) zero n a low = refl
number-at (x ∷ words) (suc k) n a low = number-at words k n a (omega arith)

module _ (d : Dimensions) (f : IsField d.q) (wanted : Requirement) (asked : CanBeAsked d wanted) where
  balanced-scale : (c : ℕ) (v : List ℕ) → 0 < c → c < d.q → IsVector d.q d.s v
      → must_balance d wanted (scale d.q c v) ≡ must_balance d wanted v
  balanced-scale c v positive hc h =
      cc (
        balances-is d f wanted asked _ (scale-vector d.q d.s f c v h),
        effect-scale d.q f c v positive hc h.codes,
        balances-is d f wanted asked v h,
      )

  -- a vector and its normal multiple are forbidden alike
  normal-balanced : (v : List ℕ) → IsVector d.q d.s v → 0 < weight v
      → must_balance d wanted (normal_multiple d.q v) ≡ must_balance d wanted v
  normal-balanced v h some =
      balanced-scale _ v
      (inv-positive d.q f _ (last_nonzero-positive v some) (last-code d.q f v h.codes)) (f.inv_code (last_nonzero v)) h

  module _ (words : List ForbiddenVector) (all : AreAllForbidden d wanted words) where
    abbrev numbers : List ℕ
    numbers = map (λ (x : ForbiddenVector). x.number) words

    any : ForbiddenVector
    any = record { vector = []; class = 0; number = 0 }

    among : (w : List ℕ) → IsVector d.q d.s w → is_normal w ≡ true → must_balance d wanted w ≡ true
        → Contains numbers (number d.q w)
    among w hw normal must =
        let h = all.all w hw normal must in
        let low : h.0 < length words = omega (arith, length-map words (λ x. x.vector)) in
        let x = slice_index_or words h.0 any in (
          h.0,
          omega (arith, length-map words (λ x. x.number)),
          cc (
            number-at words h.0 (number d.q w) any low,
            (all.each h.0 any low).number,
            (sym (vector-at words h.0 w any low) ∙ h.2),
          ),
        )

    forbidden : (w : List ℕ) → IsVector d.q d.s w → Contains numbers (number d.q w) → must_balance d wanted w ≡ true
    forbidden w hw h =
        let low : h.0 < length words = omega (arith, length-map words (λ x. x.number)) in
        let x = slice_index_or words h.0 any in
        let hx = all.each h.0 any low in
        let same =
        sym hx.number ∙ sym (number-at words h.0 (number d.q w) any low) ∙ h.2 in
        rw (number-same d.q d.s f x.vector w hx.vector hw same) at hx.forbidden

    pub are_listed : (rising : List ℕ) → IsNonDecreasing rising
        → ((n : ℕ) → Contains numbers n ↔ Contains rising n) → AreListed d wanted rising
    are_listed rising up same = record {
      rising = up;
      listed = λ v hv some.
          let w = normal_multiple d.q v in
          let hw = scale-vector d.q d.s f (inv d.q (last_nonzero v)) v hv in
          let normal =
          eq-eqb _ 1 (normal-scale d.q f v hv.codes (last_nonzero-positive v some)) in (
            λ must. (same (number d.q w)).0 (among w hw normal (cc (normal-balanced v hv some))),
            λ h. cc (normal-balanced v hv some, forbidden w hw ((same (number d.q w)).1 h)),
          );
    }

-- the first codes of a word
front : (q s t k : ℕ) → take s (digits q (s + t) k) ≡ digits q s k
front q zero t k = refl
front q (suc s) t k =
    let e : suc s + t ≡ suc (s + t) = omega arith in
    rw e (cc (front q s t (k / q)))

-- a word that is not zero, and is on the block factors, is not on the factors
pub some-front : (d : Dimensions) (f : IsField d.q) (n : ℕ) → 0 < n → n < d.q ^ (d.s + d.t)
    → is_zero (drop d.s (word_vector d n)) ≡ true → 0 < weight (digits d.q d.s n)
some-front d f n some below blocks =
    elim (cases_eq (weight (digits d.q d.s n)) 0) [
      | inr positive ↦ omega arith
      | inl none ↦
          let w = word_vector d n in
          let positive : 0 < d.q = omega arith in
          let parts = weight-split d.s w in
          let first = ap weight (front d.q d.s d.t n) ∙ none in
          let last = eqb-true _ 0 blocks in
          let is : n ≡ 0 =
          cc (
            number-digits d.q _ n positive below,
            (zeros_from_weight w _ (digits-vector d.q (d.s + d.t) n positive).len (omega arith)),
            number-zeros d.q
                (d.s + d.t),
          ) in
          absurd (omega arith)
    ]

-- what the listed numbers say of a word that is zero on the block factors
pub told : (d : Dimensions) (f : IsField d.q) (wanted : Requirement) (rising : List ℕ) → AreListed d wanted rising
    → (n : ℕ) (b : Bool) → 0 < weight (digits d.q d.s n) → is_zero (drop d.s (word_vector d n)) ≡ true
    → (IsTrue b ↔ Contains rising (number d.q (normal_multiple d.q (digits d.q d.s n))))
    → b ≡ is_forbidden_word d wanted (word_vector d n)
told d f wanted rising listed n b some blocks answer =
    let v = digits d.q d.s n in
    let both = listed.listed v (digits-vector d.q d.s n (omega arith)) some in
    (bool_same b (must_balance d wanted v)
    (λ t. both.1 (answer.0 t)) (λ t. answer.1 (both.0 t))) ∙ ap (must_balance d wanted) (sym (front d.q d.s d.t n)) ∙
    sym
    (cond-true _ _ _ blocks)
