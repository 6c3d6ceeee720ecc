use Rattle.std.proofs.Common.{arith}
use Rattle.fx_vectors.proofs.Limits.{indexes_fit}
use Rattle.fx_alias.proofs.rules.put_rule.Goals as goal

pub of_number-row-requires : goal.of_number-row-requires
of_number-row-requires c = omega (arith, indexes_fit c.args.shape c.requires.shaped)
