use Rattle.std.proofs.Common.{◌+◌, ◌-◌, ap, ap₂, sym, ◌∙◌, arith}
use Rattle.fx_text.specs.Ranges.{is_range, number_at_end}
use Rattle.fx_text.proofs.RangeParts.{order}
use Rattle.fx_effects.proofs.Mains.{number_is_short}
use Rattle.fx_statements.proofs.Folded.{all_named}
use Rattle.fx_statements.proofs.fold.fold_range.Goals as goal

pub overflow_add-upto : goal.overflow_add-upto
overflow_add-upto c =
    let high = number_is_short c.text-high.result.now (c.is_range.ensures.plain c.if-not-is_range.false).1 in
    omega arith

pub returns-clause-folded : goal.returns-clause-folded
returns-clause-folded c =
    let first = c.args.first.now in
    let last = c.args.last.now in
    let range =
    ap₂ is_range (sym c.text-low.ensures) (sym c.text-high.ensures) ∙ sym c.if-not-is_range.ensures.value in
    let low =
    c.number_at_end-from.ensures ∙ ap number_at_end c.text-low.ensures in
    let high =
    c.number_at_end-upto.ensures ∙ ap number_at_end c.text-high.ensures in
    rw (all_named c.args.factors.now c.args.codes.now first last range c.number_at_end-from.result
    (c.number_at_end-upto.result - c.number_at_end-from.result + 1) low
    (omega (arith, order first.text last.text range))) c.fold_numbered.ensures.folded

pub returns-clause-refused : goal.returns-clause-refused
returns-clause-refused c =
    let first = c.args.first.now in
    let last = c.args.last.now in
    let range =
    ap₂ is_range (sym c.text-low.ensures) (sym c.text-high.ensures) ∙ sym c.if-not-is_range.ensures.value in
    let low =
    c.number_at_end-from.ensures ∙ ap number_at_end c.text-low.ensures in
    let high =
    c.number_at_end-upto.ensures ∙ ap number_at_end c.text-high.ensures in
    rw (all_named c.args.factors.now c.args.codes.now first last range c.number_at_end-from.result
    (c.number_at_end-upto.result - c.number_at_end-from.result + 1) low
    (omega (arith, order first.text last.text range))) c.fold_numbered.ensures.refused
