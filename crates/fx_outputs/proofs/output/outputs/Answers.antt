use Rattle.std.proofs.Common.{◌≡◌, ◌∷◌, ◌++◌, [], suc, drop, ap, sym, ◌∙◌, arith}
use Rattle.std.proofs.lemmas.List.{drop_all}
use Rattle.std.proofs.lemmas.Result.{err_from_is_err_and}
use Rattle.std.proofs.Math.Numerals.{add-one}
use Rattle.std.proofs.Math.Seq.{drop-cons}
use Rattle.fx_text.specs.Refusals.{IsRefused}
use Rattle.fx_outputs.specs.Outputs.{outputs_of, outputs_behind}
use Rattle.fx_outputs.proofs.Limits.{all_within}
use Rattle.fx_outputs.proofs.Statements.{refused, read, passed, one_more_plan}
use Rattle.fx_outputs.proofs.Taken.{few_rows, new_name}
use Rattle.fx_outputs.proofs.output.outputs.Goals as goal
use Rattle.fx_outputs.proofs.output.outputs.Goals.{then-is_output+in_ok-options+in_ok-output+in_ok-plan+in_ok-push+in_ok-push-2}
use Rattle.fx_outputs.proofs.output.outputs.Goals.{else-is_output}

pub returns-in_err-output-clause-refused : goal.returns-in_err-output-clause-refused
returns-in_err-output-clause-refused c =
    let all = c.args.statements.now in
    let i = c.loop-statement.statement-index in
    let context = c.args.context.now in
    let s = c.statement-item.result in
    let reason = c.in_err-output.field-0.0 in
    let left = drop-cons all i s (omega arith) ∙ ap (λ v. v ∷ drop (suc i) all) (sym c.statement-item.is) in
    let one = rw (c.as_slice.ensures, c.in_ok-options.ensures, c.from.ensures) at c.in_err-output.ensures.refused in
    let first = rw c.lexemes-lexemes.ensures at c.index-lexemes-0.is in
    let third = rw c.lexemes-lexemes.ensures at c.index-lexemes-3.is in
    let more =
    refused context c.loop-statement.earlier c.loop-statement.outputs (drop (suc i) all) s c.index-lexemes-0.result
    c.index-lexemes-3.result reason c.if-is_output.ensures first third one in
    let whole : IsRefused (outputs_of context c.args.earlier.now all) reason =
    rw (c.loop-statement.invariant.meaning, left) more in
    let p = err_from_is_err_and c.from_residual-in_err-output.result c.from_residual-in_err-output.ensures.1 in
    rw (p.1, p.2) whole

pub plan_behind-requires : goal.plan_behind-requires
plan_behind-requires c =
    few_rows c.args.context.now c.loop-statement.earlier c.index-lexemes-0.result c.index-lexemes-3.result
    c.as_slice.result.now c.in_ok-output.output c.in_ok-output.ensures.ok

pub push-requires : goal.push-requires
push-requires c =
    rw c.in_ok-plan.ensures
    (new_name c.args.context.now c.loop-statement.earlier c.index-lexemes-0.result c.index-lexemes-3.result
    c.as_slice.result.now c.in_ok-output.output c.in_ok-output.ensures.ok)

pub loop-statement-preserved : goal.loop-statement-preserved
loop-statement-preserved c =
    let all = c.args.statements.now in
    let i = c.loop-statement.statement-index in
    let context = c.args.context.now in
    let s = c.statement-item.result in
    let earlier = c.loop-statement.earlier in
    let outputs = c.loop-statement.outputs in
    let left = drop-cons all i s (omega arith) ∙ ap (λ v. v ∷ drop (suc i) all) (sym c.statement-item.is) in
    let so_far = c.loop-statement.invariant.meaning ∙ ap (outputs_behind context earlier outputs) left in
    elim c.if-is_output.branch [
      | then-is_output+in_ok-options+in_ok-output+in_ok-plan+in_ok-push+in_ok-push-2 w ↦
          let one = rw (w.as_slice.ensures, w.in_ok-options.ensures, w.from.ensures) at w.in_ok-output.ensures.ok in
          let first = rw w.lexemes-lexemes.ensures at w.index-lexemes-0.is in
          let third = rw w.lexemes-lexemes.ensures at w.index-lexemes-3.is in
          let more =
          read context earlier outputs (drop (suc i) all) s w.index-lexemes-0.result w.index-lexemes-3.result
          w.in_ok-output.output w.if-is_output.ensures first third one in
          let plans =
          w.earlier-is ∙ w.in_ok-push.ensures.pushed
          ∙ ap (λ p. earlier ++ p ∷ []) w.in_ok-plan.ensures in
          let files : c.if-is_output.outputs ≡ outputs ++ w.in_ok-output.output ∷ [] =
          w.outputs-is ∙ w.in_ok-push-2.ensures.ok in
          record {
            meaning = rw (add-one, plans, files) (so_far ∙ more);
            plans = rw (plans, files)
                (one_more_plan context c.args.earlier.now earlier outputs w.in_ok-output.output
                c.loop-statement.invariant.plans);
          }
      | else-is_output w ↦
          record {
            meaning = rw (add-one, w.earlier-is, w.outputs-is)
                (cc (passed context earlier outputs (drop (suc i) all) s w.if-is_output.ensures));
            plans = rw (w.earlier-is, w.outputs-is) c.loop-statement.invariant.plans;
          }
    ]

pub returns-clause-within_limits : goal.returns-clause-within_limits
returns-clause-within_limits c =
    all_within c.args.context.now c.args.earlier.now c.args.statements.now c.loop-statement.outputs
    (rw (drop_all c.loop-statement.statement-index c.args.statements.now c.loop-statement-test.false) at
    c.loop-statement.invariant.meaning)
