use Rattle.std.proofs.Common.{◌≡◌, true, bit_xor, ap, sym, ◌∙◌, arith}
use Rattle.std.proofs.lemmas.Nat.{xor_lt}
use Rattle.fx_points.specs.Points.{PointsView}
use Rattle.fx_points.specs.Sums.{is_even}
use Rattle.fx_points.proofs.Additions.{sum_even}
use Rattle.fx_points.proofs.Words.{xor_twice}
use Rattle.fx_points.proofs.point_set.PointSet.shift.Goals as goal

pub returns-then-is_even-clause-sums : goal.returns-then-is_even-clause-sums
returns-then-is_even-clause-sums c y low =
    let set = c.args.self.now in
    let x = c.args.x in
    let even : is_even set.q ≡ true =
    ap is_even (sym (ap (λ (v : PointsView). v.q) c.self.view_is)) ∙ sym c.is_even.ensures.even ∙ c.if-is_even.true in
    let known = c.requires.known in
    let point = c.requires.point in
    cc (
      sum_even set.q set.m y x even low point,
      c.shift_bits.ensures.sums (bit_xor y x) (xor_lt 10 y x (omega arith) (omega arith)),
      xor_twice y x,
    )
