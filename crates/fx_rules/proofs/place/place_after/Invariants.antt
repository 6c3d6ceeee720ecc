use Rattle.std.proofs.Common.{◌≡◌, take}
use Rattle.fx_lexer.specs.Places.{place_after}
use Rattle.fx_rules.proofs.place.place_after.Given as goal

abbrev pub invariant-loop-i : goal.invariant-loop-i
invariant-loop-i l = l.place ≡ place_after (take l.i l.bytes)
