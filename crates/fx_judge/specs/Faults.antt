-- The numbers by which messages name the faults of texts that are no plans: 1 for J1.
use Rattle.std.specs.Prelude.{ℕ}
use Rattle.fx_judge.specs.declared.fault.FaultKind.{FaultKind}
use Rattle.fx_judge.specs.declared.fault.FaultKind.TheVariants.{TooLong, NoRuns, InvalidNames, OtherLength, NoLevel}
use Rattle.fx_judge.specs.declared.fault.FaultKind.TheVariants.{TooManyComponents, TooManyRuns}

abbrev pub code_of : FaultKind → ℕ
code_of TooLong = 1
code_of NoRuns = 2
code_of InvalidNames = 3
code_of OtherLength = 4
code_of NoLevel = 5
code_of TooManyComponents = 6
code_of TooManyRuns = 7
