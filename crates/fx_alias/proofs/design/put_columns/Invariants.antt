use Rattle.std.proofs.Common.{◌≡◌, ◌++◌, cond, eqb, take}
use Rattle.std.specs.Prelude.{codes}
use Rattle.std.specs.List.{flat_map}
use Rattle.fx_alias.specs.Points.{word}
use Rattle.fx_alias.proofs.design.put_columns.Given as goal

abbrev pub invariant-loop-name : goal.invariant-loop-name
invariant-loop-name l =
    l.out ≡ (l.fn.out ++ cond (eqb l.t 0) (codes "points") (codes "points BLOCK"))
    ++ flat_map word (take l.name-index l.names)
