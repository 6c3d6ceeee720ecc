use Rattle.std.proofs.Common.{◌≡◌, ◌+◌, ◌∷◌, [], map, drop, sym, ap, ap₂, subst, ◌∙◌, not}
use Rattle.std.specs.List.{IsDistinct, prefix_len}
use Rattle.std.proofs.lemmas.List.{take_rest, drop_all, map-append}
use Rattle.fx_base.proofs.Lists.{each-take, each-drop}
use Rattle.fx_language.specs.declared.symbol.Symbol.TheVariants.{Proc}
use Rattle.fx_text.specs.declared.refusal.ParseStop.TheVariants as stop
use Rattle.fx_text.specs.Written.{begins}
use Rattle.fx_text.specs.Statements.{ends_step, steps_of}
use Rattle.fx_statements.specs.Steps.{meaning_of}
use Rattle.fx_statements.specs.Programs.{steps_behind}
use Rattle.fx_statements.proofs.Parts.{names_of_more}
use Rattle.fx_outputs.proofs.Names.{built_names}
use Rattle.fx_statements.specs.Contexts.{context}
use Rattle.fx_text.specs.Names.{is_same_name}
use Rattle.fx_text.specs.Sentences.{IsAccepted}
use Rattle.fx_text.proofs.Distinct.{none_differ}
use Rattle.fx_statements.proofs.StepByStep.{one_step, step_refused}
use Rattle.fx_text.proofs.Stops.{refused}
use Rattle.fx_statements.proofs.parsing.steps.Goals as goal

pub loop-i-preserved : goal.loop-i-preserved
loop-i-preserved c =
    let statements = c.args.statements.now in
    let long : c.rest_len-len.result ≡ prefix_len (λ s. not (ends_step s)) (drop (c.loop-i.i + 1) statements) =
    cc (c.rest_len-len.ensures.value, take_rest statements (c.loop-i.i + 1)) in
    let step = c.in_ok-step.step in
    record {
      meaning =
          cc (
            c.loop-i.invariant.meaning,
            one_step statements c.loop-i.i c.rest_len-len.result
                c.index-statements-i.result c.loop-i-test.true c.loop-i.earlier
                (map meaning_of c.loop-i.program) _
                (ap (begins Proc) (sym c.index-statements-i.is) ∙ sym c.if-not-begins.ensures) long
                c.in_ok-step.ensures.step,
            c.in_ok-step.ensures.plans,
            c.in_ok-push.ensures.ok,
            map-append meaning_of
                c.loop-i.program (step ∷ []),
          );
      names =
          cc (
            c.in_ok-step.ensures.plans,
            built_names (context (meaning_of step).factors (meaning_of step).settings)
                c.loop-i.earlier step.outputs,
            c.loop-i.invariant.names,
            c.in_ok-push.ensures.ok,
            names_of_more
                c.loop-i.program step,
          );
      differ = c.in_ok-step.ensures.differ;
    }

pub loop-i-init : goal.loop-i-init
loop-i-init c = record {
  meaning = ap₂ (λ e p. steps_behind e (map meaning_of p) (steps_of c.args.statements.now)) (sym c.new-earlier.ensures)
      (sym c.new-program.ensures);
  names = cc (c.new-earlier.ensures, c.new-program.ensures);
  differ =
      rw c.new-earlier.ensures none_differ;
}

pub step_of-requires-clause-accepted : goal.step_of-requires-clause-accepted
step_of-requires-clause-accepted c =
    each-take IsAccepted _ _
    (each-drop IsAccepted c.loop-i.i c.args.statements.now c.requires)

pub step_of-requires-clause-differ : goal.step_of-requires-clause-differ
step_of-requires-clause-differ c = c.loop-i.invariant.differ

pub returns-clause-differ : goal.returns-clause-differ
returns-clause-differ c = subst (IsDistinct is_same_name) c.loop-i.invariant.names c.loop-i.invariant.differ

pub returns-in_err-step-clause-refused : goal.returns-in_err-step-clause-refused
returns-in_err-step-clause-refused c =
    let statements = c.args.statements.now in
    let long : c.rest_len-len.result ≡ prefix_len (λ s. not (ends_step s)) (drop (c.loop-i.i + 1) statements) =
    cc (c.rest_len-len.ensures.value, take_rest statements (c.loop-i.i + 1)) in
    refused _ _ c.in_err-step.field-0.0 c.from_residual.ensures.1
    (rw c.loop-i.invariant.meaning
    (step_refused statements c.loop-i.i c.rest_len-len.result c.index-statements-i.result c.loop-i-test.true
    c.loop-i.earlier
    _ (ap (begins Proc) (sym c.index-statements-i.is) ∙ sym c.if-not-begins.ensures) long c.in_err-step.field-0.0
    c.in_err-step.ensures.refused))

pub returns-in_err-push-clause-refused : goal.returns-in_err-push-clause-refused
returns-in_err-push-clause-refused c = refused _ _ stop.NoMemory c.from_residual-in_err-push.ensures.1 tt

pub returns-clause-program : goal.returns-clause-program
returns-clause-program c =
    c.loop-i.invariant.meaning
    ∙ ap (λ rest. steps_behind c.loop-i.earlier (map meaning_of c.loop-i.program) (steps_of rest))
    (drop_all c.loop-i.i c.args.statements.now c.loop-i-test.false)
