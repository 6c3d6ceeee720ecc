use Rattle.std.proofs.Common.{◌≡◌, map, take}
use Rattle.fx_alias.specs.Blocked.{is_blocked}
use Rattle.fx_runs.specs.Runs.{design_of}
use Rattle.fx_alias.proofs.marks.confounded.Given as goal

abbrev pub invariant-loop-u : goal.invariant-loop-u
invariant-loop-u l = l.found ≡ map (is_blocked (design_of l.matrix)) (take l.u-index l.components)
