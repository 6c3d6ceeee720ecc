use Rattle.std.proofs.Common.{◌≡◌, drop}
use Rattle.fx_text.specs.Statements.{statement_of}
use Rattle.fx_text.proofs.statement.find.Given as goal

abbrev pub invariant-loop-statement : goal.invariant-loop-statement
invariant-loop-statement l =
    statement_of l.word l.statements ≡ statement_of l.word (drop l.statement-index l.statements)
