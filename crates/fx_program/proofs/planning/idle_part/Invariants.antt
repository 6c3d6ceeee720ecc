use Rattle.std.proofs.Common.{◌≡◌, drop}
use Rattle.fx_program.specs.Planning.{idle_part}
use Rattle.fx_program.proofs.planning.idle_part.Given as goal

abbrev pub invariant-loop-part : goal.invariant-loop-part
invariant-loop-part l = idle_part (drop l.part-index l.parts) l.starts ≡ idle_part l.parts l.starts
