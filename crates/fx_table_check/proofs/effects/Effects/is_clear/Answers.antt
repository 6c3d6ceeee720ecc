use Rattle.std.proofs.Common.{eqb, sym, ap, ◌∙◌, get_or}
use Rattle.fx_table_book.specs.Tables.{strata_of}
use Rattle.fx_table_book.proofs.Bases.{field}
use Rattle.fx_table_check.proofs.UpToTwo.{live-clear}
use Rattle.fx_table_check.proofs.effects.Effects.is_clear.Goals as goal

pub returns : goal.returns
returns c = λ rows h.
    ap (λ i. eqb (get_or c.args.self.now.twos i 0) 1) c.from.ensures
    ∙ live-clear (strata_of c.args.base) (field c.args.base c.requires.base) c.requires.base.inside rows c.args.sum _ _
    c.requires.sum (h.ones c.args.sum c.requires.sum) (h.twos c.args.sum c.requires.sum)
    (sym (c.is_live.ensures rows h) ∙ c.if-not-is_live.false)
