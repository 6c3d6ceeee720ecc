use Rattle.std.proofs.Common.{◌≡◌, ◌++◌, true, drop}
use Rattle.fx_program.specs.Planning.{procs_behind}
use Rattle.fx_program.proofs.planning.step_starts.Given as goal

abbrev pub invariant-loop-i : goal.invariant-loop-i
invariant-loop-i l =
    l.starts ++ procs_behind l.fresh (drop l.i l.tokens) (drop l.i l.symbols) ≡ procs_behind true l.tokens l.symbols
