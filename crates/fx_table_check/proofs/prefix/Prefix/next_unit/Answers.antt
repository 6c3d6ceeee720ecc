use Rattle.std.proofs.Common.{ℕ, ◌<◌, ◌+◌, ◌-◌, ◌^◌, length, ap, ◌∙◌, arith}
use Rattle.std.specs.Prelude.{nat_le}
use Rattle.std.proofs.lemmas.Bool.Decides.{nat_tests}
use Rattle.fx_strata.specs.Stages as stages
use Rattle.fx_table_book.specs.declared.base.Base.{Base}
use Rattle.fx_table_book.proofs.Bases.{power-less}
use Rattle.fx_table_check.proofs.prefix.Prefix.next_unit.Goals as goal

pub returns-clause-below : goal.returns-clause-below
returns-clause-below c =
    let base : Base = c.args.self.now.base in
    let len : ℕ = length c.args.self.now.rows in
    let out =
    ap (λ t. nat_le (t.begin + t.units) len) c.stage-stage.ensures.stage ∙ c.requires in
    let high : len < c.stage-stage.result.begin + c.stage-stage.result.units = grind (arith, nat_tests, out) in
    let place = c.stage-stage.result.first_unit + (c.len.result - c.from.result) in
    rw (c.power.ensures.power ∙ ap (λ b. b.q ^ place) c.base.ensures.base) (power-less base c.base.ensures.valid place
    (omega arith))
