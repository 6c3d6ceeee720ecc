-- How many components there are, from one number of factors to the next.
use Rattle.std.proofs.Common.{◌≡◌, ℕ, zero, suc, ◌+◌, ◌-◌, ◌*◌, ◌/◌, ◌^◌, ◌<◌, ◌≤◌, true}
use Rattle.std.proofs.Common.{arith, inl, inr}
use Rattle.std.specs.Prelude.{nat_lt}
use Rattle.std.proofs.lemmas.Bool.{cases_lt, lt-ltb}
use Rattle.std.proofs.Math.Nat.{div-eq_of_eq-mul_left, div-le_self, mul-le-mul, pow-suc, pow-zero}
use Rattle.std.proofs.Math.Numerals.{add-one}
use Rattle.fx_designs.specs.Components.{choose, component_count, listed_count}
use Rattle.fx_vectors.specs.declared.shape.TheConstants.{MOST_FACTORS}

-- a set of k and one more, in k + 1 ways
choose_next : (n k : ℕ) → suc k * choose n (suc k) ≡ (n - k) * choose n k
choose_next zero k = let none : zero - k ≡ 0 = omega arith in rw none (omega arith)
choose_next (suc n) zero = let h = choose_next n zero in omega arith
choose_next (suc n) (suc j) =
    let one = choose_next n j in
    let two = choose_next n (suc j) in
    elim (cases_lt j n) [
      | inl below ↦
          let r : ℕ = n - suc j in
          let a : n - j ≡ r + 1 = omega arith in
          let b : suc n - suc j ≡ r + 1 = omega arith in
          let first = rw a at one in
          rw b (omega arith)
      | inr over ↦
          let a : n - j ≡ 0 = omega arith in
          let b : n - suc j ≡ 0 = omega arith in
          let c : suc n - suc j ≡ 0 = omega arith in
          let first = rw a at one in
          let second = rw b at two in
          rw c (omega arith)
    ]

module _ (q s k : ℕ) where
  one_more : component_count q s (k + 1) ≡ choose s (suc k) * (q - 1) ^ k
  one_more =
      let less : k + 1 - 1 ≡ k = omega arith in
      cc (add-one k)

  two_more : component_count q s (k + 2) ≡ choose s (suc (suc k)) * ((q - 1) ^ k * (q - 1))
  two_more =
      let more : k + 2 ≡ suc (suc k) = omega arith in
      let less : k + 2 - 1 ≡ suc k = omega arith in
      cc (pow-suc (q - 1) k)

  regroup : (c d p x r : ℕ) → suc (suc k) * d ≡ r * c → c * p * r * x ≡ d * (p * x) * (k + 2)
  regroup c d p x r h = let m : suc (suc k) * d * (p * x) ≡ r * c * (p * x) = cc in
      omega arith

  pub next_count : (next : ℕ) → next ≡ component_count q s (k + 1)
      → next * (s - k - 1) * (q - 1) / (k + 2) ≡ component_count q s (k + 2)
  next_count next is =
      let left : s - k - 1 ≡ s - suc k = omega arith in
      let all : next * (s - k - 1) * (q - 1) ≡ component_count q s (k + 2) * (k + 2) =
      cc (one_more, regroup _ _ ((q - 1) ^ k) (q - 1) _ (choose_next s (suc k)), two_more) in
      let some : zero < k + 2 = omega arith in
      div-eq_of_eq-mul_left some all

  pub count_more : listed_count q s (k + 1) ≡ listed_count q s k + component_count q s (k + 1)
  count_more =
      cc (add-one k)

pub count_first : (q s : ℕ) → component_count q s 1 ≡ s
count_first q s =
    let one = choose_next s zero in
    let none : 1 - 1 ≡ 0 = omega arith in
    let plain : component_count q s 1 ≡ choose s 1 * 1 =
    cc (pow-zero (q - 1)) in
    omega arith

-- with more factors there are no fewer
grows : (q s k n : ℕ) → listed_count q s k ≤ listed_count q s (n + k)
grows q s k zero = let e : zero + k ≡ k = omega arith in rw e (omega arith)
grows q s k (suc n) =
    let h = grows q s k n in
    let e : suc n + k ≡ suc (n + k) = omega arith in
    rw e (omega arith)

pub are_many : (q s k d : ℕ) → k < d → 100000 < listed_count q s (k + 1) → nat_lt 100000 (listed_count q s d) ≡ true
are_many q s k d below many =
    let e : d - (k + 1) + (k + 1) ≡ d = omega arith in
    let h =
    rw e at (grows q s (k + 1) (d - (k + 1))) in
    lt-ltb 100000 _ (omega arith)

-- a number that stays small
pub small_next : (next r x k n : ℕ) → n ≡ next * r * x / (k + 2) → next ≤ 100000 → r ≤ MOST_FACTORS → x ≤ 8
    → n ≤ 32000000
small_next next r x k n is few left levels =
    let b = mul-le-mul (mul-le-mul few left) levels in
    let c = div-le_self (next * r * x) (k + 2) in
    omega arith
