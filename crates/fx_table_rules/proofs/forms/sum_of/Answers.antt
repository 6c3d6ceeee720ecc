use Rattle.std.proofs.Common.{arith}
use Rattle.fx_vectors.proofs.Limits.{indexes_fit}
use Rattle.fx_table_rules.proofs.forms.sum_of.Goals as goal

pub of_number-sum-requires : goal.of_number-sum-requires
of_number-sum-requires c = let few = indexes_fit c.args.shape c.requires.shape in
    omega (arith, few, c.from-m.ensures)
