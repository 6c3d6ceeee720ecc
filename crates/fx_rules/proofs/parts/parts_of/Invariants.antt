use Rattle.std.proofs.Common.{◌≡◌, ◌++◌, drop}
use Rattle.fx_rules.specs.Parts.{lines_from, parts_among, parts_of}
use Rattle.fx_rules.proofs.parts.parts_of.Given as goal

abbrev pub invariant-loop-i : goal.invariant-loop-i
invariant-loop-i l = l.parts ++ parts_among l.text l.begun (lines_from l.fresh l.i (drop l.i l.text)) ≡ parts_of l.text
