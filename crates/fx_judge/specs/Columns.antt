-- What the runs of a plan show of its components, one by one and in pairs.
use Rattle.std.specs.Prelude.{ℕ, ◌≡◌, List, ◌++◌, map, length}
use Rattle.std.specs.List.{flat_map}
use Rattle.fx_designs.specs.Vectors.{IsVector, dot}
use Rattle.fx_judge.specs.declared.pairs.Column.{Column}
use Rattle.fx_judge.specs.declared.pairs.Pairs.{Pairs}
use Rattle.fx_judge.specs.Listing.{kinship_in, line_in}
use Rattle.fx_judge.specs.Plans.{PlanView}
use Rattle.fx_judge.specs.Tallies.{AreValueCounts}

-- the values of a component on the runs, and how often each comes
pub record IsColumn (plan : PlanView) (column : Column) : Type 0 where
  pub vector : IsVector plan.q (length plan.names) column.component
  pub values : column.values ≡ map (dot plan.q column.component) plan.rows
  pub counts : AreValueCounts 9 (map (dot plan.q column.component) plan.rows) column.counts

-- the pairs of a component and each of the later ones
abbrev pub paired : Column → List Column → List (List ℕ × List ℕ)
paired u later = map (λ v. (u.component, v.component)) later

-- these pairs of components were added
pub record HasPairs (plan : PlanView) (added : List (List ℕ × List ℕ)) (old new : Pairs) : Type 0 where
  pub kinds : new.kinds ≡ old.kinds ++ map (kinship_in plan) added
  pub lines : new.lines ≡ old.lines ++ flat_map (line_in plan) added
