use Rattle.std.proofs.Common.{◌≡◌, ◌+◌, drop}
use Rattle.fx_derived.specs.Texts.{behind_length, first_length}
use Rattle.fx_derived.proofs.packing.read_length.Given as goal

abbrev pub invariant-loop-i : goal.invariant-loop-i
invariant-loop-i l =
    (first_length l.bytes ≡ l.count + first_length (drop l.i l.bytes))
    × (behind_length l.bytes ≡ behind_length (drop l.i l.bytes))
