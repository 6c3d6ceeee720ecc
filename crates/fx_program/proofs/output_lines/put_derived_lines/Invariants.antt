use Rattle.std.proofs.Common.{◌≡◌, ◌++◌, take}
use Rattle.std.specs.List.{flat_map}
use Rattle.fx_program.specs.Files.{derived_line}
use Rattle.fx_program.proofs.output_lines.put_derived_lines.Given as goal

abbrev pub invariant-loop-factor : goal.invariant-loop-factor
invariant-loop-factor l = l.out ≡ l.fn.out ++ flat_map (derived_line l.matrix) (take l.factor-index l.derived)
