use Rattle.std.proofs.Common.{◌≡◌, ◌++◌, drop}
use Rattle.fx_outputs.specs.Values.{inside, unquoted}
use Rattle.fx_outputs.proofs.value.inside.Given as goal

abbrev pub invariant-loop-b : goal.invariant-loop-b
invariant-loop-b l = inside l.text ≡ l.bytes ++ unquoted l.quote l.met (drop l.b-index l.b-items)
