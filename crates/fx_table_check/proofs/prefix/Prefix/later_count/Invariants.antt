use Rattle.std.proofs.Common.{◌≡◌, ◌≤◌, length}
use Rattle.std.specs.List.{filter}
use Rattle.fx_designs.specs.Answers.{falling}
use Rattle.fx_strata.specs.Canonical.{is_later, dimensions_of}
use Rattle.fx_strata.specs.Stages.{stage_after}
use Rattle.fx_table_book.specs.Tables.{strata_of}
use Rattle.fx_table_check.proofs.prefix.Prefix.later_count.Given as goal

abbrev pub invariant-loop-row : goal.invariant-loop-row
invariant-loop-row l = record {
  are : l.count
      ≡ length (filter
      (λ r. is_later (dimensions_of (strata_of l.self.base))
      (stage_after (strata_of l.self.base) l.self.rows).first_unit r)
      (falling l.row));
  few : l.count ≤ l.row;
}
