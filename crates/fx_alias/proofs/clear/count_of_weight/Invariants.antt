use Rattle.std.proofs.Common.{◌≡◌, take}
use Rattle.fx_alias.specs.Clear.{count_of_weight}
use Rattle.fx_alias.proofs.clear.count_of_weight.Given as goal

abbrev pub invariant-loop-u : goal.invariant-loop-u
invariant-loop-u l = l.count ≡ count_of_weight l.k (take l.u-index l.components)
