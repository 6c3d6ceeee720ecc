-- The ending that an outcome states.
use Rattle.fx_designs.specs.Outcomes.{Ending}
use Rattle.fx_statements.specs.declared.outcome.Outcome.{Outcome}
use Rattle.fx_statements.specs.Endings.{ending_by}
pub use Rattle.fx_statements.specs.Endings.{rows_of, rows_if, HasMatrix}

-- the ending of an outcome
abbrev pub ending_in : Outcome → Ending
ending_in outcome = ending_by outcome.end outcome.matrix outcome.nodes
