use Rattle.std.proofs.Common.{◌≡◌, ◌≤◌, [], take, drop, reverse}
use Rattle.fx_language.specs.Repeats.{repeated}
use Rattle.fx_language.specs.Pasts.{past_of}
use Rattle.fx_language.proofs.repeated.first_by_rules.Given as goal

abbrev pub invariant-loop-i : goal.invariant-loop-i
invariant-loop-i l =
    (l.past ≡ past_of (reverse (take l.i l.symbols)))
    × (repeated [] 0 l.symbols ≡ repeated (reverse (take l.i l.symbols)) l.i (drop l.i l.symbols))
    × (l.past.procs ≤ l.i)
