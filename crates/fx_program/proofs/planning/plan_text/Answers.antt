use Rattle.std.proofs.Common.{ℕ, ◌≡◌, ◌<◌, List, Err, length, refl, sym, ap, subst, ◌∙◌}
use Rattle.std.proofs.lemmas.Bool.{lt-ltb}
use Rattle.fx_rules.specs.Parts.{blanked, parts_of}
use Rattle.fx_program.specs.Planning.{planned_in, planned_output}
use Rattle.fx_program.specs.Texts.{at_front, program_in}
use Rattle.fx_program.specs.declared.plan_fault.PlanFault.TheVariants as fault
use Rattle.fx_program.proofs.Commands.{all_read, never_low, part_read, read_failed}
use Rattle.fx_program.proofs.Endings.{ends_by}
use Rattle.fx_program.proofs.Ruling.{by_fault, length-blanked}
use Rattle.fx_program.proofs.planning.plan_text.Goals as goal

too_long : (text : List ℕ) → 1048576 < length text → planned_in text ≡ Err (fault.Program (at_front 25))
unfolding program_in
too_long text long =
    by_fault text (blanked text (parts_of text)) (parts_of text) (at_front 25) refl refl
    (rw (lt-ltb 1048576 (length (blanked text (parts_of text)))
    (subst (λ n. 1048576 < n) (sym (length-blanked text (parts_of text))) long)) refl)

pub returns-in_err-text : goal.returns-in_err-text
returns-in_err-text g c =
    read_failed _ (λ text. refl) c.in_err-text.ensures.unchanged c.in_err-text.field-0.0 _ _
    c.from_residual.result c.from_residual.ensures.1 c.in_err-text.ensures.cause

pub returns-in-Whole : goal.returns-in-Whole
returns-in-Whole g c =
    all_read _ (λ text. refl) c.in_ok-text.ensures.unchanged c.in_ok-text.ensures.cause 1048576 _
    (rw c.in-Whole.is at c.in_ok-text.ensures.answer)
    (ends_by (ap (λ l. planned_output c.args.session.now.seed (planned_in l)) (sym c.as_slice.ensures))
    (c.plan_steps.ensures.whatever _))

pub returns-in-TooLong : goal.returns-in-TooLong
returns-in-TooLong g c =
    part_read _ (λ text. refl) c.in_ok-text.ensures.unchanged c.in_ok-text.ensures.cause 1048576
    (rw c.in-TooLong.is at c.in_ok-text.ensures.answer)
    (λ text long. ends_by (ap (planned_output c.args.session.now.seed)
    (too_long text long ∙ ap (λ w. Err (fault.Program w)) (sym c.at_front.ensures)))
    ((c.refuse.ensures.output c.args.session.now.seed).whatever _ _ c.requires))
    (λ low. absurd (never_low c.refuse.result c.refuse.ensures.refused low))
