use Rattle.std.proofs.lemmas.Option.{IfSome_then}
use Rattle.fx_points.proofs.Found.{if_none, none_from, next_below_is}
use Rattle.fx_points.proofs.point_set.PointSet.next_below.Goals as goal

pub returns-clause-some : goal.returns-clause-some
returns-clause-some c =
    let self = c.self.inside in
    IfSome_then c.last_one_below.result c.last_one_below.ensures.some
    (λ y last. next_below_is c.args.self.now self.field self.m self.words c.self.view_is c.args.x y c.requires last)

pub returns-clause-none : goal.returns-clause-none
returns-clause-none c =
    let self = c.self.inside in
    if_none c.last_one_below.result c.last_one_below.ensures.none
    (λ zeros. none_from c.args.self.now self.field self.m self.words c.self.view_is 0 c.args.x c.requires zeros)
