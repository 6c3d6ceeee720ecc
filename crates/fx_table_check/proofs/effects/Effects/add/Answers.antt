use Rattle.fx_laws.proofs.Tables.{is_order-field}
use Rattle.fx_table_check.proofs.UpToTwo.{none-more}
use Rattle.fx_table_check.proofs.effects.Effects.add.Goals as goal

pub returns-clause-counted : goal.returns-clause-counted
returns-clause-counted c = λ rows h. record {
  none = λ x low. none-more c.args.sums.now.q c.args.sums.now.m
      (is_order-field c.args.sums.now.q c.q-known.ensures.known)
      rows c.args.row _ x low (h.none x low);
  ones = c.add_row-2.ensures.counted rows 0 h.none h.ones;
  twos = c.add_row.ensures.counted rows 1 h.ones h.twos;
}
