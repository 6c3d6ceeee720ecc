-- The status of a step.
use Rattle.std.specs.Prelude.{ℕ, Bool, if◌then◌else◌, Option, Some, None}
use Rattle.fx_designs.specs.Outcomes.{Ending, Design, NoDesign, BudgetEnded}

-- 0 for a design, 1 for none, 2 where the budget ended
abbrev pub status_of : Ending → ℕ
status_of (Design rows count) = 0
status_of (NoDesign count) = 1
status_of (BudgetEnded left budget) = 2

-- 1 where a given design does not meet the model of its step; without a model there is nothing to meet
abbrev pub met_status : Option Bool → ℕ
met_status None = 0
met_status (Some met) = if met then 0 else 1
