use Rattle.fx_designs.specs.Problems.{Dimensions, Requirement}
use Rattle.fx_vectors.specs.Shape.{dimensions_of}
use Rattle.fx_vectors.specs.Question.{requirement_of}
use Rattle.fx_tree.specs.Following.{Falls, may_fall}
use Rattle.fx_tree.proofs.Falling.{may_fall-follows}
use Rattle.fx_tree.proofs.candidates.Candidates.may_follow_where.Goals as goal

pub returns-then-falls : goal.returns-then-falls
returns-then-falls c =
    let d : Dimensions = dimensions_of c.args.question.now.shape in
    let wanted : Requirement = requirement_of c.args.question.now.demands in
    let falls : Falls d wanted c.args.front =
    rw c.if-falls.true at c.requires.falls in
    cc (c.may_fall.ensures, c.requires.shape, may_fall-follows d wanted c.args.front c.args.row falls c.requires.below)
