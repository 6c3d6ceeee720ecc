use Rattle.std.proofs.Common.{◌≡◌, eqb}
use Rattle.std.specs.List.{list_any}
use Rattle.fx_designs.specs.Answers.{falling}
use Rattle.fx_strata.specs.Changes.{moved}
use Rattle.fx_strata.specs.Canonical.{dimensions_of}
use Rattle.fx_table_book.specs.Tables.{strata_of}
use Rattle.fx_table_check.proofs.moved.moves_below.Given as goal

abbrev pub invariant-loop-row : goal.invariant-loop-row
invariant-loop-row l =
    list_any (λ r. eqb (moved (dimensions_of (strata_of l.base)) l.change r) l.to) (falling l.row)
    ≡ list_any (λ r. eqb (moved (dimensions_of (strata_of l.base)) l.change r) l.to) (falling l.bound)
