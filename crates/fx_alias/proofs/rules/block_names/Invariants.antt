use Rattle.std.proofs.Common.{◌≡◌}
use Rattle.fx_alias.specs.Rules.{block_names}
use Rattle.fx_alias.proofs.rules.block_names.Given as goal

abbrev pub invariant-loop-j : goal.invariant-loop-j
invariant-loop-j l = l.names ≡ block_names l.j
