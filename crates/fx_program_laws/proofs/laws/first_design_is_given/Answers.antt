use Rattle.std.proofs.Common.{ℕ, ◌≡◌, List}
use Rattle.fx_statements.specs.Questions.{Conclusion, outcome_of}
use Rattle.fx_statements.specs.Steps.{Meaning}
use Rattle.fx_program.specs.Plans.{AskedView}
use Rattle.fx_program_laws.specs.Endings.{EndsWith}
use Rattle.fx_program_laws.proofs.First.{first_given, first_least_given, none_given}
use Rattle.fx_program_laws.proofs.laws.first_design_is_given.Goals as goal

ends_with : (seed number : ℕ) (earlier : List AskedView) (step : Meaning) (outcome : Conclusion)
    → outcome_of step ≡ outcome → EndsWith seed number earlier step outcome
ends_with seed number earlier step outcome is =
    record { outcome_is = is; output = cc }

pub returns-clause-design : goal.returns-clause-design
returns-clause-design c seed number earlier step p rows some few last plain first =
    ends_with seed number earlier step _ (first_given step some few p last rows plain first)

pub returns-clause-least : goal.returns-clause-least
returns-clause-least c seed number earlier step p rows some few last least first =
    ends_with seed number earlier step _ (first_least_given step some few p last rows least first)

pub returns-clause-none : goal.returns-clause-none
returns-clause-none c seed number earlier step some few none =
    ends_with seed number earlier step _ (none_given step some few none)
