use Rattle.std.proofs.Common.{ℕ, ◌≡◌, Bool, true, false, eqb, refl, sym}
use Rattle.std.proofs.Common.{◌∙◌, arith, eq-eqb}
use Rattle.std.proofs.lemmas.Bool.{ne_eqb}
use Rattle.fx_strata.specs.Stages.{may_follow}
use Rattle.fx_table_book.specs.Tables.{strata_of}
use Rattle.fx_table_check.proofs.Greatest.{alone, none-before, without-units}
use Rattle.fx_table_check.proofs.prefix.Prefix.next_row.Goals as goal
use Rattle.fx_table_check.proofs.prefix.Prefix.next_row.Goals.{After-next_unit-unit}

abbrev test : After-next_unit-unit → ℕ → Bool
test c = may_follow (strata_of c.args.self.now.base) c.args.self.now.rows

is : (c : After-next_unit-unit) (r : ℕ) → test c r ≡ eqb r c.next_unit-unit.result
is c r =
    cc (
      without-units (strata_of c.args.self.now.base) c.args.self.now.rows
          (sym c.has_units.ensures ∙ c.if-has_units.false)
          r,
      c.next_unit-unit.ensures.unit,
    )

here : (c : After-next_unit-unit) → test c c.next_unit-unit.result ≡ true
here c = is c c.next_unit-unit.result ∙ eq-eqb c.next_unit-unit.result c.next_unit-unit.result refl

other : (c : After-next_unit-unit) (r : ℕ) → (r ≡ c.next_unit-unit.result → ⊥) → test c r ≡ false
other c r ne = is c r ∙ ne_eqb r c.next_unit-unit.result ne

pub returns-then-unit-below-clause-next : goal.returns-then-unit-below-clause-next
returns-then-unit-below-clause-next c =
    let a = (goal.at.returns-then-unit-below-clause-next c).After-next_unit-unit in
    let u = c.next_unit-unit.result in
    cc (
      alone (test a) u (here a) (other a) c.args.below c.if-unit-below.true,
      none-before (test a) u (other a) u
          (omega arith),
    )

pub returns-else-unit-below-clause-next : goal.returns-else-unit-below-clause-next
returns-else-unit-below-clause-next c =
    let a = (goal.at.returns-else-unit-below-clause-next c).After-next_unit-unit in
    none-before _ c.next_unit-unit.result (other a) c.args.below (omega arith)
