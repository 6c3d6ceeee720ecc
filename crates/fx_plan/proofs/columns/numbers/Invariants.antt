use Rattle.std.proofs.Common.{◌≡◌, map}
use Rattle.std.specs.Prelude.{decimal}
use Rattle.std.specs.List.{range_with_len}
use Rattle.fx_plan.proofs.columns.numbers.Given as goal

abbrev pub invariant-loop-k : goal.invariant-loop-k
invariant-loop-k l = l.values.items ≡ map decimal (range_with_len 0 l.k)
