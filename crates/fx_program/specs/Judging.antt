-- What the command `judge` gives for a plan that was made elsewhere.
use Rattle.std.specs.Prelude.{ℕ, List, ◌++◌, codes, decimal, Result, Ok, Err}
use Rattle.fx_judge.specs.declared.fault.PlanFault.{PlanFault}
use Rattle.fx_judge.specs.Faults.{code_of}
use Rattle.fx_judge.specs.Listing.{plan_listing}
use Rattle.fx_judge.specs.Plans.{PlanView}
use Rattle.fx_program.specs.Output.{Output, message}

-- the line of a fault: its code, and at which record
abbrev pub plan_fault_line : PlanFault → List ℕ
plan_fault_line fault =
    codes "factex: J" ++ (decimal (code_of fault.kind) ++ (codes " record " ++ (decimal fault.number ++ codes "\n")))

-- what is given for a plan, or for a text that is none
abbrev pub judged_output : Result PlanView PlanFault → Output
judged_output (Ok plan) = message (plan_listing plan) 0
judged_output (Err fault) = message (plan_fault_line fault) 3
