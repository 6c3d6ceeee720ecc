use Rattle.std.proofs.Common.{◌≡◌, ◌==◌, [], ◌∷◌, ◌++◌, if◌then◌else◌, take}
use Rattle.fx_runs.specs.RunBlocks.{block_of, run_at}
use Rattle.fx_plan.specs.Columns.{codes_of}
use Rattle.fx_plan.proofs.runs.run_codes.Given as goal

abbrev pub invariant-loop-i : goal.invariant-loop-i
invariant-loop-i l =
    l.codes.items
    ≡ (if l.layout.runs.now.shape.t == 0 then [] else block_of l.layout.runs.now l.k ∷ [])
    ++ codes_of l.layout.runs.now.shape.q (take l.i l.columns) (run_at l.layout.runs.now l.k)
