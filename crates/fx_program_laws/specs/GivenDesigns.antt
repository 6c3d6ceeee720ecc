-- What holds of the designs that rules give.
use Rattle.std.specs.Prelude.{List, Result, Ok, Err, All}
use Rattle.fx_vectors.specs.Shape.{dimensions_of}
use Rattle.fx_rules.specs.Laws.{IsOfRules}
use Rattle.fx_program.specs.Planning.{RuledView, shape_given}
use Rattle.fx_program.specs.declared.plan_fault.PlanFault.{PlanFault}
use Rattle.fx_program_laws.specs.PrintedRules.{RulesGiveTheLevels}

-- a claim on each step of a text with rules; a text that is refused has none
abbrev pub EachRuled : (RuledView → Type 0) → Result (List RuledView) PlanFault → Type 0
EachRuled Claimed (Ok steps) = All Claimed steps
EachRuled Claimed (Err wrong) = Unit {0}

-- The matrix of a step has the shape for which the step asks, with a row for each factor and block factor: each is the
-- next unit vector or a combination of the run indexes before. So its rules, by the names of the factors, give the
-- level of each row at every run.
pub record HasGivenDesign (one : RuledView) : Type 0 where
  pub of_rules : IsOfRules (shape_given one.step) one.matrix
  pub levels : RulesGiveTheLevels one.step.factors (dimensions_of one.matrix.shape) one.matrix.rows
