use Rattle.std.proofs.Common.{◌≡◌, ◌+◌, ◌^◌, ◌/◌, ◌%◌, ◌∙◌, eqb, take, drop, ap, subst, arith, lit≤, ◌≤◌, ◌*◌}
use Rattle.std.proofs.Math.Nat.{pow-le-pow_right}
use Rattle.std.specs.Prelude.{count_ones}
use Rattle.fx_designs.specs.Galois.{IsField, digits}
use Rattle.fx_designs.specs.Vectors.{weight, is_zero}
use Rattle.fx_designs.specs.Problems.{Dimensions}
use Rattle.fx_laws.proofs.Tables.{is_order-field}
use Rattle.fx_vectors.specs.Shape.{dimensions_of}
use Rattle.fx_checker.specs.Books.{word_vector}
use Rattle.fx_checker.proofs.Numbered.{forbidden_by_weight}
use Rattle.fx_checker.proofs.Ones.{ones-weigh, rest-zero}
use Rattle.fx_checker.proofs.bits.is_forbidden_of_bits.Goals as goal

pub returns : goal.returns
returns c =
    let d : Dimensions = dimensions_of c.args.shape in
    let f = subst IsField c.requires.two (is_order-field d.q c.requires.shaped.order) in
    let front : weight (take d.s (word_vector d c.args.number)) ≡ count_ones (c.args.number % 2 ^ d.s) =
    ap (λ q. weight (take d.s (digits q (d.s + d.t) c.args.number))) c.requires.two ∙ ones-weigh d.s (d.s + d.t)
    c.args.number (omega arith) in
    let back : is_zero (drop d.s (word_vector d c.args.number)) ≡ eqb (c.args.number / 2 ^ d.s) 0 =
    ap (λ q. is_zero (drop d.s (digits q (d.s + d.t) c.args.number))) c.requires.two ∙ rest-zero f d.s (d.s + d.t)
    c.args.number (omega arith) c.requires.below in
    let few : 2 ^ d.s ≤ 2 ^ 63 = pow-le-pow_right (lit≤ tt) c.requires.shaped.factors in
    let place : 1 * 2 ^ d.s % 18446744073709551616 ≡ 2 ^ d.s = omega arith in
    (rw place at c.is_light.ensures) ∙ forbidden_by_weight d c.args.r _
    _ _ front back
