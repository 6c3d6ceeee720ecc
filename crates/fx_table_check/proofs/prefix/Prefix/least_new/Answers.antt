use Rattle.std.proofs.Common.{◌≡◌, ◌≤◌, ◌+◌, ◌^◌, ℕ, List, map}
use Rattle.std.proofs.Common.{◌∙◌, arith}
use Rattle.std.specs.Prelude.{sum}
use Rattle.fx_strata.specs.Stages.{later_rows}
use Rattle.fx_strata.specs.Floors.{new_words}
use Rattle.fx_strata.specs.Floors.{least_sum}
use Rattle.fx_table_book.specs.Tables.{strata_of}
use Rattle.fx_table_check.proofs.LeastOf.{least-sum}
use Rattle.fx_table_check.proofs.Values.{least-fits, missing-room}
use Rattle.fx_table_check.proofs.prefix.Prefix.least_new.Goals as goal
use Rattle.fx_table_check.proofs.prefix.Prefix.least_new.Goals.{After-as_slice}

abbrev added : (c : After-as_slice) → List ℕ
added c =
    map (λ r. new_words (strata_of c.args.self.now.base) c.args.self.now.rows r c.args.confounded (c.args.i + 1))
    (later_rows (strata_of c.args.self.now.base) c.args.self.now.rows)

is : (c : After-as_slice) → sum c.as_slice.result.now ≡ least_sum c.missing-missing.result (added c)
is c =
    cc (c.as_slice.ensures.value, c.least_values-least.ensures.least, least-sum c.missing-missing.result (added c))

fits : (c : After-as_slice) → sum c.as_slice.result.now ≤ 2 ^ 126
fits c =
    omega (
      arith,
      is c,
      least-fits c.args.self.now.base c.base-known.ensures.valid c.args.self.now.rows
          (missing-room (strata_of c.args.self.now.base) c.args.self.now.rows
          (λ z. c.if-missing-eq0.false (c.missing-missing.ensures.missing ∙ z)))
          c.args.confounded (c.args.i + 1) c.missing-missing.result
          (later_rows (strata_of c.args.self.now.base) c.args.self.now.rows) c.missing-missing.ensures.few,
    )

pub total-requires : goal.total-requires
total-requires c = omega (arith, fits (goal.at.total-requires c).After-as_slice)

pub returns-clause-least : goal.returns-clause-least
returns-clause-least c =
    cc (c.total.ensures, is (goal.at.returns-clause-least c).After-as_slice, c.missing-missing.ensures.missing)

pub returns-clause-fits : goal.returns-clause-fits
returns-clause-fits c = let e = c.total.ensures in omega (arith, fits (goal.at.returns-clause-fits c).After-as_slice)
