use Rattle.std.proofs.Common.{◌≡◌, drop}
use Rattle.fx_program.specs.Planning.{part_before}
use Rattle.fx_program.proofs.planning.part_before.Given as goal

abbrev pub invariant-loop-part : goal.invariant-loop-part
invariant-loop-part l = part_before (drop l.part-index l.parts) l.start ≡ part_before l.parts l.start
