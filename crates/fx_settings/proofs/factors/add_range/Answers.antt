use Rattle.std.proofs.Common.{◌+◌, ◌-◌, sym, ap, ap₂, ◌∙◌, arith}
use Rattle.fx_text.specs.Ranges.{is_range, number_at_end}
use Rattle.fx_text.proofs.RangeParts.{order}
use Rattle.fx_settings.proofs.Added.{too_many, is_added, is_refused, is_within}
use Rattle.fx_settings.proofs.factors.add_range.Goals as goal

pub returns-then-limit-len-clause-refused : goal.returns-then-limit-len-clause-refused
returns-then-limit-len-clause-refused c =
    let first = c.args.first.now in
    let last = c.args.last.now in
    let range =
    ap₂ is_range (sym c.text-low.ensures) (sym c.text-high.ensures) ∙ sym c.if-not-is_range.ensures.value in
    let low =
    c.number_at_end-from.ensures ∙ ap number_at_end c.text-low.ensures in
    let high =
    c.number_at_end-upto.ensures ∙ ap number_at_end c.text-high.ensures in
    cc (
      too_many c.args.limit c.args.names.now first last range
          (omega (arith, order first.text last.text range)),
      c.refused-then-limit-len.ensures,
    )

pub returns-clause-added : goal.returns-clause-added
returns-clause-added c =
    let first = c.args.first.now in
    let last = c.args.last.now in
    let range =
    ap₂ is_range (sym c.text-low.ensures) (sym c.text-high.ensures) ∙ sym c.if-not-is_range.ensures.value in
    let low =
    c.number_at_end-from.ensures ∙ ap number_at_end c.text-low.ensures in
    let high =
    c.number_at_end-upto.ensures ∙ ap number_at_end c.text-high.ensures in
    let ordered = order first.text last.text range in
    is_added c.args.limit c.args.names.now first last range c.number_at_end-from.result
    (c.number_at_end-upto.result - c.number_at_end-from.result + 1) low (omega arith)
    (omega arith) c.add_numbered.result
    c.add_numbered.new.names c.add_numbered.ensures.added c.add_numbered.ensures.new

pub returns-clause-refused : goal.returns-clause-refused
returns-clause-refused c =
    let first = c.args.first.now in
    let last = c.args.last.now in
    let range =
    ap₂ is_range (sym c.text-low.ensures) (sym c.text-high.ensures) ∙ sym c.if-not-is_range.ensures.value in
    let low =
    c.number_at_end-from.ensures ∙ ap number_at_end c.text-low.ensures in
    let high =
    c.number_at_end-upto.ensures ∙ ap number_at_end c.text-high.ensures in
    let ordered = order first.text last.text range in
    is_refused c.args.limit c.args.names.now first last range c.number_at_end-from.result
    (c.number_at_end-upto.result - c.number_at_end-from.result + 1) low (omega arith)
    (omega arith) c.add_numbered.result
    c.add_numbered.ensures.known

pub returns-clause-bound : goal.returns-clause-bound
returns-clause-bound c =
    let first = c.args.first.now in
    let last = c.args.last.now in
    let range =
    ap₂ is_range (sym c.text-low.ensures) (sym c.text-high.ensures) ∙ sym c.if-not-is_range.ensures.value in
    let low =
    c.number_at_end-from.ensures ∙ ap number_at_end c.text-low.ensures in
    let high =
    c.number_at_end-upto.ensures ∙ ap number_at_end c.text-high.ensures in
    let ordered = order first.text last.text range in
    is_within c.args.limit c.args.names.now first last range c.number_at_end-from.result
    (c.number_at_end-upto.result - c.number_at_end-from.result + 1) low (omega arith)
    (omega arith) c.add_numbered.result
    c.add_numbered.new.names c.add_numbered.ensures.added
