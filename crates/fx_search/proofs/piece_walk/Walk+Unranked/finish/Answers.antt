use Rattle.std.proofs.Common.{◌<◌, ◌+◌, sym, arith}
use native.Mathlib.Nat.{sub-zero}
use Rattle.fx_vectors.specs.Question.{problem_of}
use Rattle.fx_search.proofs.Valid.{field_of}
use Rattle.fx_search.proofs.Whole.{whole_spent, carried-plain}
use Rattle.fx_search.proofs.piece_walk.Walk+Unranked.finish.Goals as goal

pub front-front-requires-clause-canonical : goal.front-front-requires-clause-canonical
front-front-requires-clause-canonical c = c.requires.start.paused.inner.canonical

pub walk_below-requires-clause-inner : goal.walk_below-requires-clause-inner
walk_below-requires-clause-inner c = c.requires.start.paused.inner

pub returns-in-Spent : goal.returns-in-Spent
returns-in-Spent c =
    let question = c.args.self.now.question.now in
    let p = problem_of question in
    let limit = c.args.self.now.limit in
    let start = c.requires.start in
    let valid = start.paused.at.valid in
    let f = field_of question valid in
    let some : 0 < question.shape.s + question.shape.t = omega arith in
    let h = rw (start.rows, start.marks, c.in-Spent.is, sub-zero) at c.in_ok-walk_below.ensures.ended.ends in
    ((whole_spent p f some limit h, sym (carried-plain p f some limit c.requires.plain), tt), tt)
