use Rattle.std.proofs.Common.{◌<◌, ◌≤◌, subst}
use Rattle.fx_vectors.specs.declared.shape.Shape.{Shape}
use Rattle.fx_table_rules.proofs.Shapes.{rule-shape}
use Rattle.fx_table_rules.proofs.rules.are_rows.Goals as goal

pub returns-then-rows-from-clause-shape : goal.returns-then-rows-from-clause-shape
returns-then-rows-from-clause-shape c = λ yes.
    rule-shape c.args.base c.requires
    (subst (λ (s : Shape). 0 < s.t → s.s ≤ 30) c.rule_shape-shape.ensures (c.fits_blocks.ensures c.if-not-fits_blocks.false))
