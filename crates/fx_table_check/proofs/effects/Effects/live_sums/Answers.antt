use Rattle.std.proofs.Common.{◌≡◌, ◌^◌, sym, ap, ◌∙◌, arith}
use Rattle.std.specs.Prelude.{count_by}
use Rattle.std.specs.List.{range_with_len}
use Rattle.fx_designs.specs.Galois.{digits}
use Rattle.fx_strata.specs.Clear.{is_live}
use Rattle.fx_table_book.specs.Tables.{strata_of}
use Rattle.fx_table_check.proofs.UpToTwo.{count-true, count-false}
use Rattle.fx_table_check.proofs.effects.Effects.live_sums.Goals as goal
use Rattle.fx_table_check.proofs.effects.Effects.live_sums.Goals.{then-is_live, else-is_live}

pub loop-sum-preserved : goal.loop-sum-preserved
loop-sum-preserved c = record {
  few = elim c.if-is_live.branch [
    | then-is_live w ↦ omega arith
    | else-is_live w ↦ omega arith
  ];
  are = λ rows h. elim c.if-is_live.branch [
    | then-is_live w ↦
        cc (count-true _ c.loop-sum.sum
        c.loop-sum.count (c.loop-sum.invariant.are rows h) (sym (c.is_live.ensures rows h) ∙ w.if-is_live.true))
    | else-is_live w ↦
        cc (count-false _ c.loop-sum.sum
        c.loop-sum.count (c.loop-sum.invariant.are rows h) (sym (c.is_live.ensures rows h) ∙ w.if-is_live.false))
  ];
}

pub returns : goal.returns
returns c = λ rows h.
    c.loop-sum.invariant.are rows h
    ∙ ap (λ n. count_by (λ r. is_live (strata_of c.args.base) rows (digits c.args.base.q c.args.base.m r))
    (range_with_len 0 n))
    (let e : c.loop-sum.sum ≡ c.args.base.q ^ c.args.base.m =
    omega arith in e)
