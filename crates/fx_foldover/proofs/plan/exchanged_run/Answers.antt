use Rattle.std.proofs.Common.{◌+◌, ◌-◌, cond, eqb, ap₂, ◌++◌, ◌∷◌, [], ◌∙◌, length, take, sym, ap}
use Rattle.std.proofs.Common.{arith}
use Rattle.std.proofs.lemmas.List.{take_all, take_more_set, length-set}
use Rattle.fx_foldover.specs.Foldovers.{exchanged_run}
use Rattle.fx_foldover.proofs.Exchanges.{length-exchanged_run, levels-more}
use Rattle.fx_foldover.proofs.plan.exchanged_run.Goals as goal

pub loop-i-preserved : goal.loop-i-preserved
loop-i-preserved c =
    record {
      len = ap length c.set.ensures.codes ∙ length-set c.loop-i.exchanged c.loop-i.i _ ∙ c.loop-i.invariant.len;
      so_far =
          ap (take (c.loop-i.i + 1)) c.set.ensures.codes
          ∙ take_more_set c.loop-i.exchanged c.loop-i.i _ (omega arith)
          ∙ ap (λ v. v ++ c.exchanged_level.result ∷ []) c.loop-i.invariant.so_far
          ∙ ap (λ a. take c.loop-i.i (exchanged_run c.args.fold.now c.args.run.now) ++ a ∷ [])
          (c.exchanged_level.ensures
          ∙ ap₂ (λ f a. cond (eqb f 0) a (1 - a)) c.code-in-loop-i.ensures c.code.ensures)
          ∙ sym (levels-more c.args.fold.now c.args.run.now c.loop-i.i c.requires.fold (omega arith));
    }

pub returns : goal.returns
returns c =
    let len = length-exchanged_run c.args.fold.now c.args.run.now c.requires.fold in
    let count = c.len-i-end.ensures.count in
    cc (
      take_all c.loop-i.i c.loop-i.exchanged (omega arith),
      c.loop-i.invariant.so_far,
      take_all c.loop-i.i
          (exchanged_run c.args.fold.now c.args.run.now) (omega arith),
    )
