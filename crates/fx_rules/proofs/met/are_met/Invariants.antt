use Rattle.std.proofs.Common.{◌≡◌, ◌<◌, true, take}
use Rattle.fx_designs.specs.Demands.{is_allowed}
use Rattle.fx_vectors.specs.Question.{problem_of, requirement_of}
use Rattle.fx_vectors.specs.Shape.{dimensions_of}
use Rattle.fx_rules.proofs.met.are_met.Given as goal

abbrev pub invariant-loop-i : goal.invariant-loop-i
invariant-loop-i l =
    (l.barred.problem ≡ problem_of l.question)
    × (l.barred.prefix ≡ take l.i l.matrix.rows)
    × (0 < l.i
    → is_allowed (dimensions_of l.question.shape) (requirement_of l.question.demands) (take l.i l.matrix.rows) ≡ true)
