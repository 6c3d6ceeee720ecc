-- Derived codes as digits.
use Rattle.std.proofs.Common.{ℕ, ◌≡◌, ◌<◌, ◌≤◌, ◌+◌, ◌*◌, ◌^◌, zero, suc, List, [], ◌∷◌, ◌++◌, length, reverse}
use Rattle.std.proofs.Common.{take, get_or, refl, sym, ◌∙◌, ap, arith, inl, inr}
use Rattle.std.specs.List.{AllByRecursion}
use Rattle.std.proofs.lemmas.Bool.{cases_lt}
use Rattle.std.proofs.Math.Nat.{mul-le-mul_left, pow-le-pow_right, pow-suc, pow-zero}
use Rattle.std.proofs.lemmas.List.{length-append, length-reverse, length-take, reverse-append, take_more}
use Rattle.fx_base.proofs.Lists.{each-take}
use Rattle.fx_designs.specs.Galois.{number}
use Rattle.fx_derived.specs.Codes.{codes_at, derived_code}

module _ (q : ℕ) where
  -- one more code
  pub code_more : (codes : List ℕ) (c : ℕ) → derived_code q (codes ++ c ∷ []) ≡ derived_code q codes * q + c
  code_more [] c = rw (pow-zero q) (omega arith)
  code_more (x ∷ codes) c =
      let long : length (codes ++ c ∷ []) ≡ suc (length codes) =
      (omega (arith, length-append codes (c ∷ []))) in
      let power =
      ap (λ n. q ^ n) long ∙ pow-suc q (length codes) in
      rw (power, code_more codes c) (omega arith)

  number_more : (v : List ℕ) (c : ℕ) → number q (v ++ c ∷ []) ≡ c * q ^ length v + number q v
  number_more [] c = rw (pow-zero q) (omega arith)
  number_more (a ∷ v) c =
      rw (pow-suc q (length v), number_more v c) (omega arith)

  -- the codes as digits, the last the lowest
  pub number_reversed : (codes : List ℕ) → number q (reverse codes) ≡ derived_code q codes
  number_reversed [] = refl
  number_reversed (x ∷ codes) =
      cc (reverse-append (x ∷ []) codes, number_more (reverse codes) x, length-reverse codes, number_reversed codes)

  -- derived codes are below the number of derived levels
  pub code_below : (codes : List ℕ) → AllByRecursion (λ c. c < q) codes → derived_code q codes < q ^ length codes
  code_below [] h = rw (pow-zero q) (omega arith)
  code_below (x ∷ codes) h =
      let rest = code_below codes h.1 in
      let first : x + 1 ≤ q = (let k = h.0 in omega arith) in
      let wide = mul-le-mul_left (q ^ length codes) first in
      rw (pow-suc q (length codes)) (omega arith)

  module _ (codes : List ℕ) (i : ℕ) (some : 0 < q) (low : i < length codes)
      (each : AllByRecursion (λ c. c < q) codes) where
    -- with the code at a place
    pub next_code : derived_code q (take i codes) * q + get_or codes i 0 ≡ derived_code q (take (i + 1) codes)
    next_code = cc (code_more (take i codes) (get_or codes i 0), take_more codes i 0 low)

    -- the derived code so far is below the number of levels
    pub next_below : derived_code q (take (i + 1) codes) < q ^ length codes
    next_below =
        let one = code_below _ (each-take _ (i + 1) codes each) in
        let long : length (take (i + 1) codes) ≤ length codes = (omega (arith, length-take (i + 1) codes)) in
        let wide = pow-le-pow_right some long in
        omega arith

    -- a step of the loop over codes
    pub step : (code : ℕ) → code ≡ derived_code q (take i codes)
        → (code * q + get_or codes i 0 ≡ derived_code q (take (i + 1) codes))
        × (code * q + get_or codes i 0 < q ^ length codes)
    step code e =
        let is : code * q + get_or codes i 0 ≡ derived_code q (take (i + 1) codes) = rw e next_code in
        (is, rw is next_below)

-- the first of two digits, where the others are below its unit
leading : (unit x y d e : ℕ) → d < unit → e < unit → x * unit + d ≡ y * unit + e → x ≡ y
leading unit x y d e hd he same =
    elim (cases_lt x y) [
      | inl less ↦
          let above : x + 1 ≤ y = omega arith in
          absurd (omega (arith, mul-le-mul_left unit above))
      | inr more ↦ elim (cases_lt y x) [
        | inl less ↦
            let above : y + 1 ≤ x = omega arith in
            absurd (omega (arith, mul-le-mul_left unit above))
        | inr other ↦ omega arith
      ]
    ]

-- different codes have different derived codes
pub codes_same : (q : ℕ) (x y : List ℕ) → length x ≡ length y → AllByRecursion (λ c. c < q) x
    → AllByRecursion (λ c. c < q) y
    → derived_code q x ≡ derived_code q y → x ≡ y
codes_same q [] [] long hx hy same = refl
codes_same q [] (b ∷ y) long hx hy same = absurd (omega arith)
codes_same q (a ∷ x) [] long hx hy same = absurd (omega arith)
codes_same q (a ∷ x) (b ∷ y) long hx hy same =
    let n : length x ≡ length y = omega arith in
    let rows =
    same ∙ ap (λ k. b * q ^ k + derived_code q y) (sym n) in
    let first = leading _ a b _ _ (code_below q x hx.1) (rw n (code_below q y hy.1)) rows in
    cc (codes_same q x y n hx.1 hy.1 (let k = rw first at rows in omega arith))

-- the codes of a run at places are codes
entry_low : (q : ℕ) (x : List ℕ) (k : ℕ) → 0 < q → AllByRecursion (λ c. c < q) x → get_or x k 0 < q
entry_low q [] k some h = some
entry_low q (a ∷ x) zero some h = h.0
entry_low q (a ∷ x) (suc k) some h = entry_low q x k some h.1

pub codes_low : (q : ℕ) (x places : List ℕ) → 0 < q → AllByRecursion (λ c. c < q) x
    → AllByRecursion (λ c. c < q) (codes_at places x)
codes_low q x [] some h = tt
codes_low q x (p ∷ places) some h = (entry_low q x _ some h, codes_low q x places some h)
