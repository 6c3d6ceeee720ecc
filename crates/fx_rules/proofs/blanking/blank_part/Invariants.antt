use Rattle.std.proofs.Common.{◌≡◌, ◌≤◌, ◌⊎◌, length}
use Rattle.fx_rules.specs.Parts.{blanked_from}
use Rattle.fx_rules.proofs.blanking.blank_part.Given as goal

abbrev pub invariant-loop-i : goal.invariant-loop-i
invariant-loop-i l =
    (l.fn.part.at ≤ l.i)
    × ((l.i ≤ l.end) ⊎ (l.i ≡ l.fn.part.at))
    × (l.bytes ≡ blanked_from l.fn.part.at l.i 0 l.initial.bytes)
    × (length l.bytes ≡ length l.initial.bytes)
