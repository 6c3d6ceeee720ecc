use Rattle.std.proofs.Common.{◌≡◌, [], length, map, drop}
use Rattle.fx_statements.specs.Steps.{meaning_of}
use Rattle.fx_program.specs.Planning.{all_ruled}
use Rattle.fx_program.proofs.planning.all_ruled.Given as goal

abbrev pub invariant-loop-i : goal.invariant-loop-i
invariant-loop-i l =
    (length l.all ≡ l.i)
    × (all_ruled l.text l.parts l.starts l.all (map meaning_of (drop l.i l.steps))
    ≡ all_ruled l.text l.parts l.starts [] (map meaning_of l.steps))
