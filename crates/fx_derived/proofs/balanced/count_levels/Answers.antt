use Rattle.std.proofs.Common.{◌^◌, ℕ, length, sym, arith}
use Rattle.std.proofs.lemmas.List.{get_or-replicate, length-replicate}
use Rattle.fx_derived.proofs.LevelCounts.{counted_more, counted_all, levels_fit}
use Rattle.fx_derived.proofs.balanced.count_levels.Goals as goal

pub loop-i-init : goal.loop-i-init
loop-i-init c =
    let levels = c.args.runs.now.shape.q ^ length c.args.places.now in
    record {
      len = cc (c.requires.none, length-replicate {A = ℕ} levels 0);
      each = λ y h. cc (c.requires.none, get_or-replicate {A = ℕ} levels y 0 0 h);
    }

pub level_at-level-requires-clause-fits : goal.level_at-level-requires-clause-fits
level_at-level-requires-clause-fits c =
    levels_fit c.args.runs.now.shape.q _ c.len-i-end.ensures.valid.shaped.order c.requires.few

pub loop-i-preserved : goal.loop-i-preserved
loop-i-preserved c =
    counted_more c.args.runs.now.shape.q c.args.places.now c.args.runs.now.rows c.loop-i.counts c.loop-i.i
    c.level_at-level.result (omega arith) (sym c.level_at-level.ensures.level) c.level_at-level.ensures.below
    c.loop-i.invariant

pub returns : goal.returns
returns c =
    counted_all c.args.runs.now.shape.q c.args.places.now c.args.runs.now.rows c.loop-i.counts c.loop-i.i
    (omega arith) c.loop-i.invariant
