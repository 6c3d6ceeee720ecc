use Rattle.std.proofs.Common.{◌≡◌, ◌+◌, map}
use Rattle.std.specs.List.{filter}
use Rattle.fx_designs.specs.Answers.{falling}
use Rattle.fx_table_check.specs.Least.{least_of}
use Rattle.fx_strata.specs.Canonical.{is_later, dimensions_of}
use Rattle.fx_strata.specs.Stages.{stage_after}
use Rattle.fx_strata.specs.Floors.{new_words}
use Rattle.fx_table_book.specs.Tables.{strata_of}
use Rattle.fx_table_check.proofs.prefix.Prefix.least_values.Given as goal

abbrev pub invariant-loop-row : goal.invariant-loop-row
invariant-loop-row l = record {
  same : l.self ≡ l.fn.self;
  least : l.least.items
      ≡ least_of l.most
      (map (λ r. new_words (strata_of l.fn.self.base) l.fn.self.rows r l.confounded (l.i + 1))
      (filter
      (λ r. is_later (dimensions_of (strata_of l.fn.self.base))
      (stage_after (strata_of l.fn.self.base) l.fn.self.rows).first_unit r)
      (falling l.row)));
}
