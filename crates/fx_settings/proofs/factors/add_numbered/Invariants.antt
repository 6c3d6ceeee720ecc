use Rattle.std.proofs.Common.{◌≡◌, ◌++◌, length, take, drop}
use Rattle.fx_text.specs.Ranges.{numbered, stem}
use Rattle.fx_settings.specs.Factors.{are_known}
use Rattle.fx_settings.proofs.factors.add_numbered.Given as goal

abbrev pub invariant-loop-i : goal.invariant-loop-i
invariant-loop-i l =
    (l.known ≡ length l.fn.names)
    × (l.names ≡ l.fn.names ++ take l.i (numbered (stem l.first.text) l.from l.count))
    × (are_known (numbered (stem l.first.text) l.from l.count) l.fn.names
    ≡ are_known (drop l.i (numbered (stem l.first.text) l.from l.count)) l.fn.names)
