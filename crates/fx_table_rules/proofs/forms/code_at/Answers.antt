use Rattle.std.proofs.Common.{arith}
use Rattle.fx_vectors.proofs.Limits.{indexes_fit}
use Rattle.fx_table_rules.proofs.forms.code_at.Goals as goal

pub of_number-row-requires : goal.of_number-row-requires
of_number-row-requires c = let few = indexes_fit c.args.shape c.requires in
    omega (arith, few, c.from-m.ensures)
