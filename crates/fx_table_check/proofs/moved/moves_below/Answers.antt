use Rattle.std.proofs.Common.{ℕ, ◌-◌, Bool, eqb}
use Rattle.std.proofs.Common.{sym, ◌∙◌, arith, eq-eqb}
use Rattle.std.proofs.lemmas.Bool.{ne_eqb}
use Rattle.fx_designs.specs.Answers.{falling}
use Rattle.fx_strata.specs.Changes.{moved}
use Rattle.fx_strata.specs.Canonical.{dimensions_of}
use Rattle.fx_table_book.specs.Tables.{strata_of}
use Rattle.fx_table_check.proofs.Ranges.{any-here, any-next, falling-first}
use Rattle.fx_table_check.proofs.moved.moves_below.Goals as goal

pub returns-then-image_of-to : goal.returns-then-image_of-to
returns-then-image_of-to c =
    let p : ℕ → Bool = λ r. eqb (moved (dimensions_of (strata_of c.args.base)) c.args.change.now r) c.args.to in
    let n = c.loop-row.row - 1 in
    cc (
      c.loop-row.invariant,
      falling-first c.loop-row.row (omega arith),
      any-here p n (falling n)
          (eq-eqb _ _ (sym c.image_of.ensures ∙ c.if-image_of-to.true)),
    )

pub loop-row-preserved : goal.loop-row-preserved
loop-row-preserved c =
    let p : ℕ → Bool = λ r. eqb (moved (dimensions_of (strata_of c.args.base)) c.args.change.now r) c.args.to in
    let n = c.loop-row.row - 1 in
    cc (
      falling-first c.loop-row.row (omega arith),
      any-next p n (falling n)
          (ne_eqb _ _ (λ e. c.if-image_of-to.false (c.image_of.ensures ∙ e))),
      c.loop-row.invariant,
    )
