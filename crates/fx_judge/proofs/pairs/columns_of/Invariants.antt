use Rattle.std.proofs.Common.{◌≡◌, map, take}
use Rattle.std.specs.List.{All}
use Rattle.fx_judge.specs.Columns.{IsColumn}
use Rattle.fx_judge.proofs.pairs.columns_of.Given as goal

abbrev pub invariant-loop-i : goal.invariant-loop-i
invariant-loop-i l = record {
  columns : All (IsColumn l.plan) l.columns;
  components : map (λ c. c.component) l.columns ≡ take l.i l.components;
}
