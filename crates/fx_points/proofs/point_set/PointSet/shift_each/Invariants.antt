use Rattle.std.proofs.Common.{◌≡◌, ◌≤◌, ◌^◌, []}
use Rattle.fx_points.proofs.Scatter.{IsIn}
use Rattle.fx_points.proofs.point_set.PointSet.shift_each.Given as goal

abbrev pub invariant-loop : goal.invariant-loop
invariant-loop l = record {
  levels : l.shifted.q ≡ l.self.q;
  indexes : l.shifted.m ≡ l.self.m;
  members : IsIn l.self.q l.self.m l.x (record { q = l.self.q; m = l.self.m; numbers = [] }) l.self l.shifted l.from;
  count : l.counter ≤ l.from;
  bound : l.from ≤ l.self.q ^ l.self.m;
}
