-- The weight of a vector, its last entry but zeros, and the test whether two vectors are the same.
use Rattle.std.proofs.Common.{ℕ, ◌≡◌, ◌<◌, ◌+◌, zero, suc, true, cond, List, [], ◌∷◌, length, zero-add, refl, sym}
use Rattle.std.proofs.Common.{◌∙◌, arith}
use Rattle.std.specs.Prelude.{nat_lt}
use Rattle.std.proofs.lemmas.List.Sums.{sum_by-cons}
use Rattle.std.proofs.lemmas.Bool.{and_parts, and_from, both_ways, eqb-true, eq-eqb}
use Rattle.std.proofs.lemmas.Bool.Decides.{nat_tests}
use Rattle.fx_designs.specs.Vectors.{weight, last_nonzero, same, zeros}

pub weight-none : (u : List ℕ) → weight (0 ∷ u) ≡ weight u
weight-none u = sum_by-cons (λ c. cond (nat_lt 0 c) 1 0) 0 u ∙ zero-add (weight u)

pub weight-some : (a : ℕ) (u : List ℕ) → 0 < a → weight (a ∷ u) ≡ 1 + weight u
weight-some a u h =
    let t : nat_lt 0 a ≡ true = grind (arith, nat_tests) in
    cc (sum_by-cons (λ c. cond (nat_lt 0 c) 1 0) a u, t)

pub weight-zeros : (n : ℕ) → weight (zeros n) ≡ 0
weight-zeros zero = refl
weight-zeros (suc n) = weight-none (zeros n) ∙ weight-zeros n

pub zeros_from_weight : (v : List ℕ) (n : ℕ) → length v ≡ n → weight v ≡ 0 → v ≡ zeros n
zeros_from_weight [] zero e h = refl
zeros_from_weight [] (suc n) e h = absurd (omega arith)
zeros_from_weight (a ∷ v) zero e h = absurd (omega arith)
zeros_from_weight (zero ∷ v) (suc n) e h =
    cc (zeros_from_weight v n (omega arith) (sym (weight-none v) ∙ h))
zeros_from_weight (suc a ∷ v) (suc n) e h =
    absurd (let e' = weight-some (suc a) v (omega arith) in let bad : 1 + weight v ≡ 0 = sym e' ∙ h in omega arith)

pub last_nonzero-zeros : (n : ℕ) → last_nonzero (zeros n) ≡ 0
last_nonzero-zeros zero = refl
last_nonzero-zeros (suc n) = rw (last_nonzero-zeros n) refl

pub same-self : (u : List ℕ) → same u u ≡ true
same-self [] = refl
same-self (a ∷ u) = and_from _ _ (eq-eqb a a refl) (same-self u)

pub same-true : (u v : List ℕ) → same u v ≡ true → u ≡ v
same-true [] [] e = refl
same-true [] (b ∷ v) e = absurd (both_ways _ refl e)
same-true (a ∷ u) [] e = absurd (both_ways _ refl e)
same-true (a ∷ u) (b ∷ v) e = (let p = and_parts _ _ e in cc (eqb-true a b p.0, same-true u v p.1))
