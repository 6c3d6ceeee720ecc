-- Tests and products of numbers.
use Rattle.std.proofs.Common.{◌≡◌, ℕ, ◌+◌, ◌*◌, eqb, arith}
use Rattle.std.proofs.lemmas.Bool.Decides.{nat_tests}

pub eqb_comm : (a b : ℕ) → eqb a b ≡ eqb b a
eqb_comm a b = grind (arith, nat_tests)

pub add_one-mul : (n k : ℕ) → (n + 1) * k ≡ n * k + k
add_one-mul n k = omega arith
