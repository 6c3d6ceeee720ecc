use Rattle.std.proofs.Common.{◌≡◌, get_or, map, take}
use Rattle.fx_plan.proofs.assembled.chosen.Given as goal

abbrev pub invariant-loop-i : goal.invariant-loop-i
invariant-loop-i l = l.v.items ≡ map (λ i. get_or l.numbers i 0) (take l.i-index l.by)
