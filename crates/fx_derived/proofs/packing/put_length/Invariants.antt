use Rattle.std.proofs.Common.{◌≡◌, ◌++◌, replicate}
use Rattle.fx_derived.proofs.packing.put_length.Given as goal

abbrev pub invariant-loop-i : goal.invariant-loop-i
invariant-loop-i l = l.bytes.items ≡ l.fn.bytes.items ++ replicate l._i 255
