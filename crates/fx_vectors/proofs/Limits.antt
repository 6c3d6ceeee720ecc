-- What the limits of a shape say of its numbers.
use Rattle.std.proofs.Common.{ℕ, ◌<◌, ◌≤◌, ◌+◌, ◌^◌, arith, inl, inr, IsTrue, lit<}
use Rattle.std.proofs.lemmas.Bool.{cases_lt}
use Rattle.std.proofs.lemmas.Bool.Decides.{nat_tests}
use Rattle.std.proofs.Math.Nat.{pow-le-pow_left, pow-le-pow_right}
use Rattle.fx_designs.specs.Galois.{is_order}
use Rattle.fx_vectors.specs.declared.shape.Shape.{Shape}
use Rattle.fx_vectors.specs.Shape.{IsShape}
use Rattle.fx_vectors.specs.declared.shape.TheConstants.{MOST_FACTORS, MOST_FACTORS_OF_MANY_LEVELS}

pub order-bounds : (q : ℕ) → IsTrue (is_order q) → (2 ≤ q) × (q ≤ 9)
order-bounds q known = (grind (arith, nat_tests), grind (arith, nat_tests))

-- the codes of so many factors have a number of less than 127 bits
pub numbers_fit : (q n : ℕ) → q ≤ 9 → n ≤ MOST_FACTORS_OF_MANY_LEVELS → q ^ n < 2 ^ 127
numbers_fit q n small short =
    let more : 9 ^ n ≤ 9 ^ MOST_FACTORS_OF_MANY_LEVELS = pow-le-pow_right (omega arith) short in
    let less : q ^ n ≤ 9 ^ n = pow-le-pow_left small n in
    let fits : 9 ^ MOST_FACTORS_OF_MANY_LEVELS < 2 ^ 127 = lit< tt in
    omega arith

-- with at most 1,024 runs there are at most 10 run indexes
pub indexes_fit : (shape : Shape) → IsShape shape → shape.m ≤ 10
indexes_fit shape h =
    elim (cases_lt 10 shape.m) [
      | inl more ↦
          let two : 2 ^ shape.m ≤ shape.q ^ shape.m = pow-le-pow_left (order-bounds shape.q h.order).0 shape.m in
          let long : 11 ≤ shape.m = omega arith in
          let eleven : 2 ^ 11 ≤ 2 ^ shape.m = pow-le-pow_right (omega arith) long in
          let many : 1024 < 2 ^ 11 = lit< tt in
          let few : shape.q ^ shape.m ≤ 1024 = h.runs in
          absurd (omega arith)
      | inr few ↦ few
    ]

pub rows_fit : (shape : Shape) → IsShape shape → shape.s + shape.t ≤ MOST_FACTORS
rows_fit shape h =
    elim (cases_lt 0 shape.t) [
      | inl blocks ↦ omega (arith, h.factors_in_blocks blocks, h.block_factors)
      | inr none ↦ omega (arith, h.factors)
    ]

-- so have those of as many as there may be with two or three levels
few_levels_fit : (q n : ℕ) → q ≤ 3 → n ≤ MOST_FACTORS → q ^ n < 2 ^ 127
few_levels_fit q n small short =
    let more : 3 ^ n ≤ 3 ^ MOST_FACTORS = pow-le-pow_right (omega arith) short in
    let less : q ^ n ≤ 3 ^ n = pow-le-pow_left small n in
    let fits : 3 ^ MOST_FACTORS < 2 ^ 127 = lit< tt in
    omega arith

-- a word over all rows, or over the first of them, has a number of less than 127 bits
pub words_fit : (shape : Shape) → IsShape shape → (n : ℕ) → n ≤ shape.s + shape.t → shape.q ^ n < 2 ^ 127
words_fit shape h n short =
    let bounds = order-bounds shape.q h.order in
    elim (cases_lt 3 shape.q) [
      | inr few ↦ few_levels_fit shape.q n few (omega (arith, short, rows_fit shape h))
      | inl many ↦ elim (cases_lt 0 shape.t) [
        | inl blocks ↦
            numbers_fit shape.q n bounds.1 (omega (arith, short, h.factors_in_blocks blocks, h.block_factors))
        | inr none ↦ numbers_fit shape.q n bounds.1 (omega (arith, short, h.factors_of_many_levels many))
      ]
    ]
