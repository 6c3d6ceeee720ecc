use Rattle.std.proofs.Common.{take, sym, subst}
use Rattle.std.proofs.lemmas.List.{take_more}
use Rattle.fx_table_check.specs.Effects.{AreEffects}
use Rattle.fx_table_check.proofs.effects.Effects.of.Goals as goal

pub loop-row-preserved : goal.loop-row-preserved
loop-row-preserved c =
    let rows = c.args.rows.now in
    let i = c.loop-row.row-index in
    record {
      capped = rw c.requires.sums at c.add.ensures.capped;
      counted = rw (take_more rows i 0 c.loop-row-test.true) (rw c.requires.sums at (c.add.ensures.counted (take i rows)
          (subst (λ v. AreEffects v.q v.m (take i rows) c.loop-row.effects) (sym c.requires.sums)
          c.loop-row.invariant.counted)));
    }
