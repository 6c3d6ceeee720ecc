use Rattle.std.proofs.Common.{◌≡◌, [], replicate}
use Rattle.fx_barred.proofs.kept.none_kept.Given as goal

abbrev pub invariant-loop : goal.invariant-loop
invariant-loop l = l.kept.items ≡ replicate l.counter (record { rows = []; depth = 0; list = [] })
