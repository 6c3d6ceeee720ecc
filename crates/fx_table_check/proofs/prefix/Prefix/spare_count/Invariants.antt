use Rattle.std.proofs.Common.{◌≡◌, ◌≤◌}
use Rattle.std.specs.Prelude.{count_by}
use Rattle.std.specs.List.{filter}
use Rattle.fx_designs.specs.Answers.{falling}
use Rattle.fx_strata.specs.Canonical.{is_later, dimensions_of}
use Rattle.fx_strata.specs.Stages.{stage_after}
use Rattle.fx_strata.specs.Floors.{is_spare}
use Rattle.fx_table_book.specs.Tables.{strata_of}
use Rattle.fx_table_check.proofs.prefix.Prefix.spare_count.Given as goal

abbrev pub invariant-loop-row : goal.invariant-loop-row
invariant-loop-row l = record {
  are : l.count
      ≡ count_by (is_spare (strata_of l.self.base) l.none l.self.rows)
      (filter
      (λ r. is_later (dimensions_of (strata_of l.self.base))
      (stage_after (strata_of l.self.base) l.self.rows).first_unit r)
      (falling l.row));
  few : l.count ≤ l.row;
}
