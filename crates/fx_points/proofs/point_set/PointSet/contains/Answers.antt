use Rattle.std.proofs.Common.{◌%◌, get_or}
use Rattle.std.proofs.lemmas.Nat.Bits.{shr_and_one}
use Rattle.fx_points.specs.Members.{has_of}
use Rattle.fx_points.proofs.point_set.PointSet.contains.Goals as goal

pub returns : goal.returns
returns c =
    let x = c.args.x in
    let words = c.self.inside.words in
    cc (
      shr_and_one (get_or words c.from.result 0) (x % 64),
      c.from.ensures,
      has_of c.args.self.now c.self.inside.field c.self.inside.m words x c.self.view_is c.requires,
    )
