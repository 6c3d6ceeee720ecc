use Rattle.std.proofs.Common.{◌≡◌, ◌<◌, ℕ, List, map, Ok, Err, length, sym, ap, ◌∙◌, refl}
use Rattle.std.proofs.lemmas.Bool.{lt-ltb}
use Rattle.fx_statements.specs.Steps.{meaning_of}
use Rattle.fx_program.specs.Texts.{at_front, program_in}
use Rattle.fx_program.specs.Output.{program_output}
use Rattle.fx_program.proofs.Endings.{ends_by, ends_none}
use Rattle.fx_program.proofs.Commands.{all_read, never_low, part_read, read_failed}
use Rattle.fx_program.proofs.run.run.Goals as goal

too_long : (text : List ℕ) → 1048576 < length text → program_in text ≡ Err (at_front 25)
unfolding program_in
too_long text long = rw (lt-ltb 1048576 (length text) long) refl

pub returns-in_err-text : goal.returns-in_err-text
returns-in_err-text g c =
    read_failed _ (λ text. refl) c.in_err-text.ensures.unchanged c.in_err-text.field-0.0 _ _
    c.from_residual.result c.from_residual.ensures.1 c.in_err-text.ensures.cause

pub returns-in-TooLong : goal.returns-in-TooLong
returns-in-TooLong g c =
    part_read _ (λ text. refl) c.in_ok-text.ensures.unchanged c.in_ok-text.ensures.cause 1048576
    (rw c.in-TooLong.is at c.in_ok-text.ensures.answer)
    (λ text long. ends_by (ap (program_output c.args.session.now.seed)
    (too_long text long ∙ ap Err (sym c.at_front.ensures)))
    ((c.refuse.ensures.output c.args.session.now.seed).whatever _ _ c.requires))
    (λ low. absurd (never_low c.refuse.result c.refuse.ensures.refused low))

pub returns-in-Ok : goal.returns-in-Ok
returns-in-Ok g c =
    all_read _ (λ text. refl) c.in_ok-text.ensures.unchanged c.in_ok-text.ensures.cause 1048576 _
    (rw c.in-Whole.is at c.in_ok-text.ensures.answer)
    (ends_by
    (ap (λ l. program_output c.args.session.now.seed (program_in l)) (sym c.as_slice.ensures) ∙ ap
    (program_output c.args.session.now.seed) c.in-Ok.ensures.program
    ∙ ap (λ steps. program_output c.args.session.now.seed (Ok (map meaning_of steps))) (sym c.as_slice-in-Ok.ensures))
    (c.run_steps.ensures.whatever _))

pub returns-in-Err-Fault : goal.returns-in-Err-Fault
returns-in-Err-Fault g c =
    let found = rw c.in-Err-Fault.field-0-is at c.in-Err-Fault.ensures.fault in
    all_read _ (λ text. refl) c.in_ok-text.ensures.unchanged c.in_ok-text.ensures.cause 1048576 _
    (rw c.in-Whole.is at c.in_ok-text.ensures.answer)
    (ends_by (ap (λ l. program_output c.args.session.now.seed (program_in l)) (sym c.as_slice.ensures) ∙ ap
    (program_output c.args.session.now.seed) found)
    ((c.refuse-in-Err-Fault.ensures.output c.args.session.now.seed).whatever _ _ c.requires))

pub returns : goal.returns
returns g c =
    all_read _ (λ text. refl) c.in_ok-text.ensures.unchanged c.in_ok-text.ensures.cause 1048576 _
    (rw c.in-Whole.is at c.in_ok-text.ensures.answer)
    (ends_none _ _ refl _)
