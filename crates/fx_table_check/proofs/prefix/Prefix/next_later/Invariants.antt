use Rattle.std.proofs.Common.{◌≡◌, ◌≤◌}
use Rattle.std.specs.List.{filter}
use Rattle.fx_designs.specs.Answers.{falling}
use Rattle.fx_strata.specs.Stages.{may_follow, bound}
use Rattle.fx_table_book.specs.Tables.{strata_of}
use Rattle.fx_table_check.proofs.prefix.Prefix.next_later.Given as goal

abbrev pub invariant-loop-row : goal.invariant-loop-row
invariant-loop-row l = record {
  same : filter (may_follow (strata_of l.self.base) l.self.rows) (falling l.row)
      ≡ filter (may_follow (strata_of l.self.base) l.self.rows) (falling l.below);
  low : l.row ≤ l.below;
  bound : l.row ≤ bound (strata_of l.self.base) l.self.rows;
}
