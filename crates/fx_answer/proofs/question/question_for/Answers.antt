use Rattle.std.proofs.Common.{sym, ap, ◌∙◌, subst}
use Rattle.fx_vectors.specs.Question.{CanBeAsked}
use Rattle.fx_vectors.specs.Shape.{dimensions_of}
use Rattle.fx_statements.specs.Steps.{meaning_of}
use Rattle.fx_answer.proofs.Valid.{kept_valid, least_valid, requirement_valid}
use Rattle.fx_answer.proofs.question.question_for.Goals as goal

pub returns-clause-valid : goal.returns-clause-valid
returns-clause-valid c =
    let step = c.args.step.now in
    let low = c.requires.low in
    let high = c.requires.high in
    let wanted = c.in_ok-demands_for.ensures in
    record {
      shaped = c.shape_for.ensures.of_step.shaped;
      asked =
          subst (λ r. CanBeAsked (dimensions_of c.shape_for.result) r) (sym wanted)
          (rw (← c.shape_for.ensures.dimensions) at (requirement_valid _ (kept_valid step) c.args.n low high));
      least = λ h.
          let valid = least_valid (meaning_of step) (kept_valid step) c.args.n low high h in (
            rw (← wanted) at valid.0,
            ap (λ d. d.t) c.shape_for.ensures.dimensions ∙
                valid.1,
          );
    }
