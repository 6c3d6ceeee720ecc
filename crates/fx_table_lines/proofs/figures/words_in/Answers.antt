use Rattle.std.proofs.Common.{arith, sym, ◌∙◌}
use Rattle.fx_strata.specs.Orders.{are_words}
use Rattle.fx_table_lines.proofs.Entries.{at_end, passed}
use Rattle.fx_table_lines.proofs.figures.words_in.Goals as goal

pub returns-then-i-key : goal.returns-then-i-key
returns-then-i-key c =
    sym (at_end (are_words c.args.confounded c.args.weight) c.args.parts.now c.args.key.now c.loop-i.i
    (omega (arith, c.if-i-key.true)))
    ∙ c.loop-i.invariant.1

pub loop-i-preserved : goal.loop-i-preserved
loop-i-preserved c = (
  omega (arith, c.loop-i.invariant.0, c.if-i-key.false),
  sym (passed (are_words c.args.confounded c.args.weight) c.args.parts.now c.args.key.now c.loop-i.i _
      (omega (arith, c.loop-i-test.true))
      (omega (arith, c.loop-i.invariant.0, c.if-i-key.false)) (sym c.are_words.ensures ∙ c.if-are_words.false))
      ∙ c.loop-i.invariant.1,
)
