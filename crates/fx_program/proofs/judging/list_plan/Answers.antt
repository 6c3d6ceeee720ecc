use Rattle.std.proofs.Common.{◌++◌, sym, ap, ◌∙◌}
use Rattle.fx_judge.specs.Listing.{plan_listing}
use Rattle.fx_program.specs.Output.{message}
use Rattle.fx_program.proofs.Endings.{lists_by, lists_none}
use Rattle.fx_program.proofs.judging.list_plan.Goals as goal

pub returns-in_err-judge_listing : goal.returns-in_err-judge_listing
returns-in_err-judge_listing g c = lists_none _ c.from_residual.result c.from_residual.ensures.1 _

pub returns : goal.returns
returns g c =
    lists_by
    (ap (λ l. message l 0)
    (sym (c.as_slice.ensures ∙ c.in_ok-judge_listing.ensures.ok ∙ ap (λ l. l ++ plan_listing c.args.plan.now)
    c.new-lines.ensures)))
    c.list.ensures.output
