use Rattle.std.proofs.Common.{◌<◌, refl, arith}
use Rattle.fx_laws.proofs.Tables.{is_order-field}
use Rattle.fx_points.proofs.Halves.{power-some}
use Rattle.fx_barred.proofs.reached.Reached.sum_to.Goals as goal

pub loop-j-init : goal.loop-j-init
loop-j-init c =
    let s = c.self.inside in
    let f = is_order-field s.sums.q c.self.invariant.order in
    let some : 0 < s.sums.q = omega arith in
    record {
      point = rw (← c.self.view_is) (power-some s.sums.q s.sums.m some);
      so_far = refl;
    }
