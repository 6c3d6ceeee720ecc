use Rattle.std.proofs.Common.{◌≡◌, ◌-◌, ◌++◌, length, drop}
use Rattle.fx_text.specs.Statements.{statements_of}
use Rattle.fx_text.proofs.statement.statements.Given as goal

abbrev pub invariant-loop-at : goal.invariant-loop-at
invariant-loop-at l = statements_of l.lexemes ≡ l.statements ++ statements_of (drop l.at l.lexemes)

abbrev pub decreases-loop-at : goal.decreases-loop-at
decreases-loop-at l = length l.lexemes - l.at
