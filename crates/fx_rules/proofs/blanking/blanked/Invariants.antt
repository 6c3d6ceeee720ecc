use Rattle.std.proofs.Common.{◌≡◌, drop, length}
use Rattle.fx_rules.specs.Parts.{blanked}
use Rattle.fx_rules.proofs.blanking.blanked.Given as goal

abbrev pub invariant-loop-k : goal.invariant-loop-k
invariant-loop-k l =
    (blanked l.bytes.items (drop l.k l.parts) ≡ blanked l.fn.text l.parts) × (length l.bytes.items ≡ length l.fn.text)
