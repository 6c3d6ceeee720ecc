use Rattle.std.proofs.Common.{rules, ◌≡◌, ◌<◌, ℕ, List, Err, length, sym, ap, ◌∙◌, refl}
use Rattle.std.proofs.lemmas.Bool.{lt-ltb}
use Rattle.fx_judge.specs.declared.fault.FaultKind.TheVariants.{TooLong}
use Rattle.fx_judge.specs.Reading.{plan_fault, plan_of_text}
use Rattle.fx_program.specs.Judging.{judged_output}
use Rattle.fx_program.proofs.Endings.{ends_by}
use Rattle.fx_program.proofs.Commands.{all_read, never_low, part_read, read_failed}
use Rattle.fx_program.proofs.judging.judge_text.Goals as goal

too_long : (q : ℕ) (text : List ℕ) → 1048576 < length text → plan_of_text q text ≡ Err (plan_fault TooLong 1)
unfolding plan_of_text
too_long q text long = rw (lt-ltb 1048576 (length text) long) refl

pub returns-in_err-text : goal.returns-in_err-text
returns-in_err-text g c shelf closed =
    read_failed _ (λ text. refl) c.in_err-text.ensures.unchanged c.in_err-text.field-0.0 _ _
    c.from_residual.result c.from_residual.ensures.1 c.in_err-text.ensures.cause

pub returns-in-TooLong : goal.returns-in-TooLong
returns-in-TooLong g c shelf closed =
    part_read _ (λ text. refl) c.in_ok-text.ensures.unchanged c.in_ok-text.ensures.cause 1048576
    (rw c.in-TooLong.is at c.in_ok-text.ensures.answer)
    (λ text long. ends_by (ap judged_output (too_long c.args.q text long))
    (c.refuse_plan.ensures.output.whatever _ shelf closed))
    (λ low. absurd (never_low c.refuse_plan.result c.refuse_plan.ensures.refused low))

pub returns-in-Ok : goal.returns-in-Ok
returns-in-Ok g c shelf closed =
    let same : c.unwrap-field.result ≡ c.args.q = search rules in
    all_read _ (λ text. refl) c.in_ok-text.ensures.unchanged c.in_ok-text.ensures.cause 1048576 _
    (rw c.in-Whole.is at c.in_ok-text.ensures.answer)
    (ends_by (ap judged_output (ap (λ q. plan_of_text q c.in-Whole.text) (sym same) ∙ c.in-Ok.ensures.plan))
    (c.list_plan.ensures.whatever _ shelf closed))

pub returns-in-Err-Refused : goal.returns-in-Err-Refused
returns-in-Err-Refused g c shelf closed =
    let same : c.unwrap-field.result ≡ c.args.q = search rules in
    let found = rw c.in-Err-Refused.field-0-is at c.in-Err-Refused.ensures.refused in
    all_read _ (λ text. refl) c.in_ok-text.ensures.unchanged c.in_ok-text.ensures.cause 1048576 _
    (rw c.in-Whole.is at c.in_ok-text.ensures.answer)
    (ends_by (ap judged_output (ap (λ q. plan_of_text q c.in-Whole.text) (sym same) ∙ found))
    (c.refuse_plan-in-Err-Refused.ensures.output.whatever _ shelf closed))
