use Rattle.std.proofs.Common.{◌%◌, refl, arith}
use Rattle.fx_points.proofs.Found.{first_of_word, none_of_word, first_of_later, none_of_later}
use Rattle.fx_points.proofs.point_set.PointSet.next_from.Goals as goal

pub returns-in-Some-clause-some : goal.returns-in-Some-clause-some
returns-in-Some-clause-some c =
    let self = c.self.inside in
    first_of_word c.args.self.now self.field self.m self.words c.self.view_is c.args.x c.in-Some.place c.from.result
    (c.args.x % 64) (omega arith) c.from.ensures refl c.in-Some.ensures.some

pub loop-i-init : goal.loop-i-init
loop-i-init c =
    let self = c.self.inside in
    none_of_word c.args.self.now self.field self.m self.words c.self.view_is c.args.x c.from.result
    (c.args.x % 64) (omega arith) c.from.ensures refl c.in_default.ensures.none

pub returns-in-Some-first_bit-clause-some : goal.returns-in-Some-first_bit-clause-some
returns-in-Some-first_bit-clause-some c =
    let self = c.self.inside in
    first_of_later c.args.self.now self.field self.m self.words c.self.view_is c.args.x c.loop-i.i
    c.from-in-loop-i.result c.in-Some-first_bit.place c.loop-i-test.true c.from-in-loop-i.ensures c.loop-i.invariant
    (omega arith) c.in-Some-first_bit.ensures.some

pub loop-i-preserved : goal.loop-i-preserved
loop-i-preserved c =
    let self = c.self.inside in
    none_of_later c.args.self.now self.field self.m self.words c.self.view_is c.args.x c.loop-i.i
    c.from-in-loop-i.result c.loop-i-test.true c.from-in-loop-i.ensures c.loop-i.invariant
    c.in_default-first_bit.ensures.none
