use Rattle.fx_plan.proofs.Handing.{can_be_planned}
use Rattle.fx_program.proofs.output_lines.put_plan_lines.Goals as goal

pub put_derived_lines-requires-clause-derived : goal.put_derived_lines-requires-clause-derived
put_derived_lines-requires-clause-derived c =
    let design = c.asked.invariant.design c.in-Some.matrix c.in-Some.is in
    rw c.as_slice.ensures
    (can_be_planned c.asked.inside.step.now c.in-Some.matrix c.asked.inside.output.now design c.asked.invariant.among).derived
