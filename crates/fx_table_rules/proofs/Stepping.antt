-- Rows that rules can give, one after the other, and the unit vectors among them.
use Rattle.std.proofs.Common.{ℕ, ◌≡◌, ◌<◌, ◌≤◌, ◌+◌, ◌*◌, ◌^◌, suc, eqb, List, [], ◌∷◌, sym, ◌∙◌, ap, arith}
use Rattle.std.proofs.Common.{inl, inr, eqb-true}
use Rattle.std.specs.Prelude.{◌==◌, if◌then◌else◌}
use Rattle.std.proofs.lemmas.Bool.{cases_Bool, cases_eq, cases_lt, cond-true, cond-false}
use Rattle.std.proofs.Math.Nat.{pow-le-pow_right, one-le-pow, pow-suc, mul-le-mul_left}
use Rattle.fx_tree.specs.Introduced.{introduced}
use Rattle.fx_strata.proofs.Lists.{IsMember}

-- the unit vector after a row
pub next_unit : (q k row next : ℕ) → next ≡ q ^ k
    → (if row == next then next * q else next) ≡ q ^ (if row == q ^ k then k + 1 else k)
next_unit q k row next e = elim (cases_Bool (eqb row (q ^ k))) [
  | inl t ↦
      ap (λ n. if row == n then n * q else n) e ∙ cond-true (eqb row (q ^ k)) (q ^ k * q) (q ^ k) t
      ∙ sym (pow-suc q k) ∙ ap (λ n. q ^ n) (let one : suc k ≡ k + 1 = omega arith in one)
      ∙ sym (ap (λ n. q ^ n) (cond-true (eqb row (q ^ k)) (k + 1) k t))
  | inr o ↦
      ap (λ n. if row == n then n * q else n) e ∙ cond-false (eqb row (q ^ k)) (q ^ k * q) (q ^ k) o
      ∙ sym (ap (λ n. q ^ n) (cond-false (eqb row (q ^ k)) (k + 1) k o))
]

-- each unit vector up to the last that comes is among the rows
pub unit_among : (q k n : ℕ) (rows : List ℕ) → introduced q k rows ≡ n → (i : ℕ) → k ≤ i → i < n
    → IsMember (q ^ i) rows
unit_among q k n [] e i low high = absurd (omega arith)
unit_among q k n (r ∷ rows) e i low high = elim (cases_Bool (eqb r (q ^ k))) [
  | inl t ↦ elim (cases_eq i k) [
    | inl is ↦ inl (eqb-true r (q ^ k) t ∙ ap (λ z. q ^ z) (sym is))
    | inr other ↦ inr (unit_among q (k + 1) n rows
        (ap (λ j. introduced q j rows) (sym (cond-true (eqb r (q ^ k)) (k + 1) k t)) ∙ e) i (omega arith) high)
  ]
  | inr o ↦ inr (unit_among q k n rows
      (ap (λ j. introduced q j rows) (sym (cond-false (eqb r (q ^ k)) (k + 1) k o)) ∙ e) i low high)
]

power_less : (q i j : ℕ) → 2 ≤ q → i < j → q ^ i < q ^ j
power_less q i j two less =
    let next : q ^ suc i ≤ q ^ j = pow-le-pow_right (omega arith) less in
    let is : q ^ suc i ≡ q ^ i * q = pow-suc q i in
    let one : 1 ≤ q ^ i = one-le-pow i q (omega arith) in
    let twice : q ^ i * 2 ≤ q ^ i * q = mul-le-mul_left (q ^ i) two in
    omega arith

pub same_power : (q i j : ℕ) → 2 ≤ q → q ^ i ≡ q ^ j → i ≡ j
same_power q i j two e = elim (cases_lt i j) [
  | inl less ↦ absurd (let p = power_less q i j two less in omega arith)
  | inr past ↦ elim (cases_lt j i) [
    | inl more ↦ absurd (let p = power_less q j i two more in omega arith)
    | inr same ↦ omega arith
  ]
]
