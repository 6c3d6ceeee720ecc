use Rattle.std.proofs.Common.{sym, ap, ◌∙◌, arith, get_or}
use Rattle.std.specs.Prelude.{nat_lt}
use Rattle.fx_table_book.specs.Tables.{strata_of}
use Rattle.fx_table_book.proofs.Bases.{field}
use Rattle.fx_table_check.proofs.UpToTwo.{inside-dead, multiple-dead, others-live}
use Rattle.fx_table_check.proofs.effects.Effects.is_live.Goals as goal

pub returns-then-sum-blocks : goal.returns-then-sum-blocks
returns-then-sum-blocks c = λ rows h.
    inside-dead (strata_of c.args.base) (field c.args.base c.requires.base) c.requires.base.inside rows c.args.sum _ _
    c.requires.sum (h.ones c.args.sum c.requires.sum) (h.twos c.args.sum c.requires.sum)
    (omega arith)

pub returns-then-self-from-ne0 : goal.returns-then-self-from-ne0
returns-then-self-from-ne0 c = λ rows h.
    multiple-dead (strata_of c.args.base) (field c.args.base c.requires.base) c.requires.base.inside rows c.args.sum _ _
    c.requires.sum (h.ones c.args.sum c.requires.sum) (h.twos c.args.sum c.requires.sum)
    (omega arith)
    (λ e. c.if-self-from-ne0.true (ap (λ i. get_or c.args.self.now.ones i 0) c.from.ensures ∙ e))

pub returns : goal.returns
returns c = λ rows h.
    ap (λ i. nat_lt (get_or c.args.self.now.twos i 0) 2) c.from-2.ensures
    ∙ others-live (strata_of c.args.base) (field c.args.base c.requires.base) c.requires.base.inside rows c.args.sum _ _
    c.requires.sum (h.ones c.args.sum c.requires.sum) (h.twos c.args.sum c.requires.sum)
    (omega arith)
    (ap (λ i. get_or c.args.self.now.ones i 0) (sym c.from.ensures) ∙ c.if-self-from-ne0.false)
