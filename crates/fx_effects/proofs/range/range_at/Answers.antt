use Rattle.std.proofs.Common.{◌≡◌, ◌+◌, ◌-◌, ap, ap₂, sym, ◌∙◌, arith}
use Rattle.fx_text.specs.Ranges.{is_range, names_between, number_at_end, numbered, stem}
use Rattle.fx_text.proofs.RangeParts.{order}
use Rattle.fx_effects.specs.Factors.{mains_from}
use Rattle.fx_effects.proofs.Mains.{number_is_short, whole}
use Rattle.fx_effects.proofs.range.range_at.Goals as goal

pub overflow_add-upto : goal.overflow_add-upto
overflow_add-upto c =
    let high = number_is_short c.text-high.result.now (c.is_range.ensures.plain c.if-not-is_range.false).1 in
    omega arith

pub returns-clause-ok : goal.returns-clause-ok
returns-clause-ok c =
    let first = c.args.first.now in
    let last = c.args.last.now in
    let range =
    ap₂ is_range (sym c.text-low.ensures) (sym c.text-high.ensures) ∙ sym c.if-not-is_range.ensures.value in
    let low =
    c.number_at_end-from.ensures ∙ ap number_at_end c.text-low.ensures in
    let high =
    c.number_at_end-upto.ensures ∙ ap number_at_end c.text-high.ensures in
    let count : c.number_at_end-upto.result - c.number_at_end-from.result + 1
    ≡ number_at_end last.text + 1 - number_at_end first.text =
    omega (arith, order first.text last.text range) in
    let between : names_between first.text last.text
    ≡ numbered (stem first.text) c.number_at_end-from.result
    (c.number_at_end-upto.result - c.number_at_end-from.result + 1) =
    cc in
    whole c.args.factors.now first last _ range
    (ap (mains_from first c.args.factors.now _) between ∙ c.in_ok-stars.ensures.ok)
