-- What the claim of an open line gives: one that is weakened does not.
use Rattle.std.proofs.Common.{ℕ, length, arith}
use Rattle.fx_designs.specs.Nodes.{nodes}
use Rattle.fx_vectors.specs.declared.shape.Shape.{Shape}
use Rattle.fx_catalogue.specs.declared.line.Line.TheVariants.{Budget}
use Rattle.fx_catalogue.specs.Lines.{problem_at}
use Rattle.fx_catalogue.specs.Laws.{Holds}

-- no line is open where there are no more nodes than the budget
open_within_budget : (shape : Shape) → Holds shape (length (nodes (problem_at shape))) Budget → ⊥
open_within_budget shape line = omega (arith, line)
