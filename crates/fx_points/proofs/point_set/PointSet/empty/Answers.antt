use Rattle.fx_points.specs.Members.{no_numbers}
use Rattle.fx_points.proofs.point_set.PointSet.empty.Goals as goal

pub returns : goal.returns
returns c i = record { q = c.args.field; m = c.args.m; numbers = no_numbers i }
