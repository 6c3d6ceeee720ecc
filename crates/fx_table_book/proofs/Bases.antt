-- What the limits of a base say of its numbers.
use Rattle.std.proofs.Common.{ℕ, ◌<◌, ◌≤◌, ◌^◌, suc, ◌*◌, ◌≡◌, arith}
use Rattle.std.proofs.Math.Nat.{pow-le-pow_right, one-le-pow, pow-suc, mul-le-mul_left}
use Rattle.fx_designs.specs.Galois.{IsField}
use Rattle.fx_laws.proofs.Tables.{is_order-field}
use Rattle.fx_table_book.specs.declared.base.Base.{Base}
use Rattle.fx_table_book.specs.Tables.{IsBase}

module _ (base : Base) (h : IsBase base) where
  pub field : IsField base.q
  field = is_order-field base.q h.shaped.order

  pub some-levels : 0 < base.q
  some-levels = (let f = field in omega arith)

  -- a power of so few factors
  pub power-low : (i : ℕ) → i ≤ base.m → base.q ^ i ≤ 1024
  power-low i low =
      let less = pow-le-pow_right some-levels low in
      omega arith

  pub power-few : (i : ℕ) → i ≤ base.m → base.q ^ i ≤ base.q ^ base.m
  power-few i low = pow-le-pow_right some-levels low

  pub power-some : (i : ℕ) → 0 < base.q ^ i
  power-some i = (omega (arith, one-le-pow i base.q some-levels))

  pub power-less : (i : ℕ) → i < base.m → base.q ^ i < base.q ^ base.m
  power-less i low =
      let f = field in
      let next : base.q ^ suc i ≤ base.q ^ base.m = pow-le-pow_right some-levels low in
      let is : base.q ^ suc i ≡ base.q ^ i * base.q = pow-suc base.q i in
      let one : 1 ≤ base.q ^ i = one-le-pow i base.q some-levels in
      let more : base.q ^ i * 2 ≤ base.q ^ i * base.q = mul-le-mul_left (base.q ^ i) (omega arith) in
      omega arith
