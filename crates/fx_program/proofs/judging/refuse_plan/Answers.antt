use Rattle.std.proofs.Common.{◌++◌, sym, ap, ◌∙◌}
use Rattle.fx_program.specs.Judging.{plan_fault_line}
use Rattle.fx_program.specs.Output.{message}
use Rattle.fx_program.proofs.Endings.{lists_by, lists_none}
use Rattle.fx_program.proofs.judging.refuse_plan.Goals as goal

pub returns-in_err-put_plan_fault-clause-output : goal.returns-in_err-put_plan_fault-clause-output
returns-in_err-put_plan_fault-clause-output g c = lists_none _ c.from_residual.result c.from_residual.ensures.1 _

pub returns-clause-output : goal.returns-clause-output
returns-clause-output g c =
    lists_by
    (ap (λ l. message l 3)
    (sym (c.as_slice.ensures ∙ c.in_ok-put_plan_fault.ensures ∙ ap (λ l. l ++ plan_fault_line c.args.fault)
    c.new-line.ensures)))
    c.list.ensures.output
