use Rattle.std.proofs.Common.{◌+◌, ◌<◌, ◌∷◌, arith, map, drop, sym, ap, subst, ◌∙◌}
use Rattle.fx_statements.specs.Steps.{meaning_of}
use Rattle.fx_program.proofs.SoFar.{all_given, before_steps, next_step, no_source, no_step, one_more, stopped}
use Rattle.fx_program.proofs.SoFar.{worse_low}
use Rattle.fx_program.proofs.run.run_steps.Goals as goal

pub loop-i-init : goal.loop-i-init
loop-i-init g c = record {
  low = omega arith;
  closed = c.requires;
  so_far = λ source. rw c.new-plans.ensures (before_steps _ _ _ _);
}

pub returns-in_err-ended : goal.returns-in_err-ended
returns-in_err-ended g c =
    let next =
    next_step meaning_of c.args.steps.now c.loop-i.i c.index-steps-i.result c.loop-i-test.true ∙ ap
    (λ s. meaning_of s ∷ map meaning_of (drop (c.loop-i.i + 1) c.args.steps.now)) (sym c.index-steps-i.is) in
    record {
      whatever = λ source.
          stopped (c.loop-i.invariant.so_far source) next
          c.in_err-ended.field-0.0 (c.in_err-ended.ensures.output.whatever source)
          c.from_residual.result c.from_residual.ensures.1;
    }

pub loop-i-preserved : goal.loop-i-preserved
loop-i-preserved g c =
    let next =
    next_step meaning_of c.args.steps.now c.loop-i.i c.index-steps-i.result c.loop-i-test.true ∙ ap
    (λ s. meaning_of s ∷ map meaning_of (drop (c.loop-i.i + 1) c.args.steps.now)) (sym c.index-steps-i.is) in
    let ends = c.in_ok-ended.ensures.output.whatever in
    record {
      low =
          subst (λ s. s < 4) (sym c.worse-status.ensures)
          (worse_low c.loop-i.status c.in_ok-ended.ended c.loop-i.invariant.low (ends no_source).low);
      closed = (ends no_source).closed;
      so_far = λ source. one_more (c.loop-i.invariant.so_far source) next (ends source) c.in_ok-ended.ensures.plans
          c.worse-status.ensures;
    }

pub returns : goal.returns
returns g c =
    let none = no_step meaning_of c.args.steps.now c.loop-i.i c.loop-i-test.false in
    record {
      whatever = λ source.
          all_given (c.loop-i.invariant.so_far source) none c.loop-i.invariant.low c.loop-i.invariant.closed;
    }
