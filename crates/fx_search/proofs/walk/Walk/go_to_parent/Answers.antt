use Rattle.std.proofs.Common.{◌<◌, ◌-◌, length, arith, ⊎_elim}
use Rattle.std.proofs.lemmas.List.{get_or-take, length-take-le, take-take}
use Rattle.fx_vectors.specs.Question.{problem_of}
use Rattle.fx_search.proofs.Starts.{each-allowed, expanded-allowed}
use Rattle.fx_search.proofs.Valid.{field_of}
use Rattle.fx_search.proofs.walk.Walk.go_to_parent.Goals as goal

pub push-requires-clause-open_ : goal.push-requires-clause-open_
push-requires-clause-open_ g c =
    let p = problem_of c.args.self.now.question.now in
    let j = c.args.piece.now.rows in
    let i = c.loop-i.invariant in
    let n = length j - 1 in
    let low : c.loop-i.i < n = omega arith in
    let long = length-take-le n j (omega arith) in
    let allowed =
    ⊎_elim (λ none. absurd (omega arith)) (expanded-allowed p _)
    c.requires.piece.open_ in
    cc (
      take-take c.loop-i.i n j (omega arith),
      c.row.ensures.row,
      get_or-take n j c.loop-i.i 0 low,
      each-allowed p
          (field_of c.args.self.now.question.now c.requires.at.valid) _ allowed c.loop-i.i
          (omega arith),
    )
