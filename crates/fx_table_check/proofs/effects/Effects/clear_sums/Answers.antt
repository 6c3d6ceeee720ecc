use Rattle.std.proofs.Common.{◌≡◌, ◌^◌, sym, ap, ◌∙◌, arith}
use Rattle.std.specs.Prelude.{count_by}
use Rattle.std.specs.List.{range_with_len}
use Rattle.fx_designs.specs.Galois.{digits}
use Rattle.fx_strata.specs.Clear.{is_clear_sum}
use Rattle.fx_table_book.specs.Tables.{strata_of}
use Rattle.fx_table_check.proofs.UpToTwo.{count-true, count-false}
use Rattle.fx_table_check.proofs.effects.Effects.clear_sums.Goals as goal
use Rattle.fx_table_check.proofs.effects.Effects.clear_sums.Goals.{then-is_clear, else-is_clear}

pub loop-sum-preserved : goal.loop-sum-preserved
loop-sum-preserved c = record {
  few = elim c.if-is_clear.branch [
    | then-is_clear w ↦ omega arith
    | else-is_clear w ↦ omega arith
  ];
  are = λ rows h. elim c.if-is_clear.branch [
    | then-is_clear w ↦
        cc (count-true _
        c.loop-sum.sum
        c.loop-sum.count (c.loop-sum.invariant.are rows h) (sym (c.is_clear.ensures rows h) ∙ w.if-is_clear.true))
    | else-is_clear w ↦
        cc (count-false _
        c.loop-sum.sum
        c.loop-sum.count (c.loop-sum.invariant.are rows h) (sym (c.is_clear.ensures rows h) ∙ w.if-is_clear.false))
  ];
}

pub returns : goal.returns
returns c = λ rows h.
    c.loop-sum.invariant.are rows h
    ∙ ap (λ n. count_by (λ r. is_clear_sum (strata_of c.args.base) rows (digits c.args.base.q c.args.base.m r))
    (range_with_len 0 n))
    (let e : c.loop-sum.sum ≡ c.args.base.q ^ c.args.base.m =
    omega arith in e)
