use Rattle.std.proofs.Common.{◌++◌, List, ap, sym, ◌∙◌}
use Rattle.std.proofs.lemmas.Result.{IfOk-equal}
use Rattle.fx_statements.specs.Steps.{meaning_of}
use Rattle.fx_statements.specs.declared.outcome.Outcome.{Outcome}
use Rattle.fx_statements.specs.declared.step.Step.{Step}
use Rattle.fx_answer.specs.Outcomes.{IsOutcome}
use Rattle.fx_program.specs.Ended.{IsEnded}
use Rattle.fx_program.specs.Plans.{AskedView}
use Rattle.fx_program.proofs.Given.{asked_again, by_outcome, is_design, is_made}
use Rattle.fx_program.proofs.Endings.{writes_by, writes_none}
use Rattle.fx_program.proofs.run.run_step.Goals as goal

is_ended : (step : Step) (outcome : Outcome) → IsOutcome (meaning_of step) outcome → IsEnded step outcome
is_ended step outcome is =
    record { design = λ matrix e. is_design step outcome matrix is e; shapes = is.shapes }

pub give-requires-clause-ended : goal.give-requires-clause-ended
give-requires-clause-ended g c = λ _ _. is_ended c.args.step.now c.in_ok-outcome.outcome c.in_ok-outcome.ensures.outcome

pub returns-in_err-outcome-clause-output : goal.returns-in_err-outcome-clause-output
returns-in_err-outcome-clause-output g c = writes_none _ c.from_residual.result c.from_residual.ensures.1 _ _

pub returns-clause-output : goal.returns-clause-output
returns-clause-output g c =
    let seed = c.args.session.now.seed in let step = meaning_of c.args.step.now in
    let outcome = c.in_ok-outcome.outcome in
    writes_by
    (by_outcome seed c.args.number c.args.plans.now step outcome c.in_ok-outcome.ensures.outcome
    ∙ is_made seed c.args.number c.args.plans.now step outcome)
    c.give.ensures.output

pub returns-clause-plans : goal.returns-clause-plans
returns-clause-plans g c =
    IfOk-equal c.give.result _ _ _ c.give.ensures.plans
    (ap (λ (l : List AskedView). c.args.plans.now ++ l)
    (sym (asked_again (meaning_of c.args.step.now) c.in_ok-outcome.outcome c.in_ok-outcome.ensures.outcome)))
