use Rattle.std.proofs.Common.{◌<◌, arith, sym, ◌∙◌}
use Rattle.fx_points.specs.Members.{has_is, has_of}
use Rattle.fx_points.proofs.Words.{first_two}
use Rattle.fx_points.proofs.point_set.PointSet.copy_points.Goals as goal

pub returns : goal.returns
returns c x low =
    let other = c.other.inside in
    let few : x < 128 = omega arith in
    has_is _ x (omega arith)
    ∙ first_two c.self.inside.words other.words x c.self.invariant.len few
    ∙ sym (has_of c.args.other.now other.field other.m other.words x c.other.view_is (omega arith))
