-- How many components of one and two factors there are, factor by factor.
use Rattle.std.proofs.Common.{ℕ, zero, suc, ◌≡◌, ◌+◌, ◌-◌, ◌*◌, ◌^◌, refl, ◌∙◌, ap, ap₂, arith, min}
use Rattle.std.proofs.Math.Nat.{pow-suc, pow-zero}
use Rattle.fx_designs.specs.Components.{choose, listed_count}
use Rattle.fx_judge.specs.Plans.{component_total}

one : (s : ℕ) → choose s 1 ≡ s
one zero = refl
one (suc n) = omega (arith, one n)

power_none : (x : ℕ) → x ^ 0 ≡ 1
power_none x = pow-zero x

power_one : (x : ℕ) → x ^ 1 ≡ x
power_one x = pow-suc x 0 ∙ ap (λ y. y * x) (pow-zero x) ∙ omega arith

two_of : (q n : ℕ) → listed_count q (suc (suc n)) 2 ≡ suc (suc n) + choose (suc (suc n)) 2 * (q - 1)
two_of q n =
    let a : choose (suc (suc n)) 1 * (q - 1) ^ 0 ≡ suc (suc n) =
    ap (λ x. choose (suc (suc n)) 1 * x) (power_none (q - 1)) ∙ (omega (arith, one (suc (suc n)))) in
    let b : choose (suc (suc n)) 2 * (q - 1) ^ 1 ≡ choose (suc (suc n)) 2 * (q - 1) =
    cc (power_one (q - 1)) in
    let z : listed_count q (suc (suc n)) 2
    ≡ 0 + choose (suc (suc n)) 1 * (q - 1) ^ 0 + choose (suc (suc n)) 2 * (q - 1) ^ 1 = refl in
    z ∙ ap₂ (λ x y. 0 + x + y) a b ∙ omega arith

total_is : (q s : ℕ) → component_total q s ≡ s + choose s 2 * (q - 1)
total_is q zero = let z : choose 0 2 * (q - 1) ≡ 0 = omega arith in omega arith
total_is q (suc zero) =
    let z : component_total q 1 ≡ 0 + choose 1 1 * (q - 1) ^ 0 = refl in
    z ∙ ap (λ x. 0 + choose 1 1 * x) (power_none (q - 1)) ∙ omega arith
total_is q (suc (suc n)) =
    let two : min 2 (suc (suc n)) ≡ 2 = omega arith in
    cc (two_of q n)

-- one more factor, of which there were i
pub total_more : (q i : ℕ) → component_total q (i + 1) ≡ component_total q i + (1 + i * (q - 1))
total_more q i =
    let more : i + 1 ≡ suc i = omega arith in
    let pairs : choose (suc i) 2 ≡ i + choose i 2 = omega (arith, one i) in
    ap (component_total q) more ∙ total_is q (suc i) ∙ ap (λ x. suc i + x * (q - 1)) pairs
    ∙ (let e = total_is q i in grind arith)
