use Rattle.std.proofs.Common.{◌≡◌, ◌<◌, ◌≤◌, ◌+◌, ◌∷◌, ◌++◌, [], List, map, take, get_or, length, sym, ap, subst, ◌∙◌}
use Rattle.std.proofs.Common.{arith}
use Rattle.std.proofs.lemmas.List.{length-map, length-take, map_more}
use Rattle.fx_statements.specs.Questions.{Conclusion, outcome_of}
use Rattle.fx_statements.specs.Outcomes.{ending_in}
use Rattle.fx_statements.specs.Steps.{Meaning, meaning_of}
use Rattle.fx_program.specs.declared.summary.Summary.{Summary}
use Rattle.fx_program.specs.Summed.{IsSummaryOf, with_ending}
use Rattle.fx_program.proofs.Summing.{by_ending, has_room, low_with, summary_of_none}
use Rattle.fx_program.proofs.summary.summary_of.Goals as goal

pub loop-step-init : goal.loop-step-init
loop-step-init g c = record { so_far = summary_of_none; few = omega arith; low = omega arith }

pub with_ending-summary-requires : goal.with_ending-summary-requires
with_ending-summary-requires g c =
    let steps : List Meaning = map meaning_of (take c.loop-step.step-index c.args.steps.now) in
    let long : length steps ≤ c.loop-step.step-index =
    omega (
      arith,
      length-map (take c.loop-step.step-index c.args.steps.now) meaning_of,
      length-take
          c.loop-step.step-index c.args.steps.now,
    ) in
    has_room steps c.loop-step.summary c.loop-step.invariant.so_far (omega (arith, long, c.loop-step-test.true))
    (omega (arith, c.loop-step.invariant.few, c.loop-step-test.true))

pub loop-step-preserved : goal.loop-step-preserved
loop-step-preserved g c =
    let i = c.loop-step.step-index in
    let outcome = c.in_ok-outcome.outcome in
    let step : Meaning = meaning_of c.step-item.result in
    let before : List Meaning = map meaning_of (take i c.args.steps.now) in
    let next : get_or c.args.steps.now i c.step-item.result ≡ c.step-item.result = sym c.step-item.is in
    let more : map meaning_of (take (i + 1) c.args.steps.now) ≡ before ++ step ∷ [] =
    map_more meaning_of c.args.steps.now i c.step-item.result c.loop-step-test.true ∙ ap
    (λ s. before ++ meaning_of s ∷ []) next in
    let is : c.with_ending-summary.result ≡ with_ending c.loop-step.summary (ending_in outcome) =
    c.with_ending-summary.ensures.summary outcome.matrix in
    let ending : (outcome_of step).ending ≡ ending_in outcome =
    sym (ap (λ (x : Conclusion). x.ending) c.in_ok-outcome.ensures.outcome.concluded) in
    record {
      so_far = subst (IsSummaryOf (map meaning_of (take (i + 1) c.args.steps.now))) (sym is)
          (subst (λ (l : List Meaning). IsSummaryOf l (with_ending c.loop-step.summary (ending_in outcome))) (sym more)
          (by_ending before c.loop-step.summary c.loop-step.invariant.so_far step (ending_in outcome) ending));
      few = omega (arith, c.with_ending-summary.ensures.few, c.loop-step.invariant.few);
      low = subst (λ (s : Summary). s.status < 4) (sym is)
          (low_with c.loop-step.summary (ending_in outcome) c.loop-step.invariant.low);
    }
