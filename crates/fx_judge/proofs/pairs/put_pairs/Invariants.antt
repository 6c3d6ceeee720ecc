use Rattle.std.proofs.Common.{take}
use Rattle.fx_judge.specs.Columns.{HasPairs, paired}
use Rattle.fx_judge.proofs.pairs.put_pairs.Given as goal

abbrev pub invariant-loop-v : goal.invariant-loop-v
invariant-loop-v l = HasPairs l.plan (take l.v-index (paired l.u l.later)) l.initial.pairs l.pairs
