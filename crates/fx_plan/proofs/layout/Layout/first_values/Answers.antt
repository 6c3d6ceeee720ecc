use Rattle.std.proofs.Common.{◌∙◌}
use Rattle.fx_plan.proofs.Fitting.{values_fit}
use Rattle.fx_plan.proofs.layout.Layout.first_values.Goals as goal

pub returns-clause-values : goal.returns-clause-values
returns-clause-values c =
    c.in_ok-values.ensures ∙ rw (
      c.as_slice.ensures,
      c.in_ok-free.ensures,
      c.as_slice-derived.ensures,
      c.as_slice-recodes.ensures,
      c.shape-shape.ensures.shape,
    )

pub returns-clause-fit : goal.returns-clause-fit
returns-clause-fit c =
    record {
      lengths = rw (returns-clause-values c)
          (values_fit c.args.self.now.runs.now.shape.q c.args.self.now.runs.now.shape.s
          c.args.self.now.output.now.recodes
          c.args.self.now.output.now.derived c.args.self.now.planned.recodes c.args.self.now.planned.derived);
    }
