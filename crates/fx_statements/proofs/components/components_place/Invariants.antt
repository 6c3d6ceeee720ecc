use Rattle.std.proofs.Common.{◌≡◌, drop}
use Rattle.fx_statements.specs.Components.{components_place}
use Rattle.fx_statements.proofs.components.components_place.Given as goal

abbrev pub invariant-loop-statement : goal.invariant-loop-statement
invariant-loop-statement l = components_place l.statements ≡ components_place (drop l.statement-index l.statements)
