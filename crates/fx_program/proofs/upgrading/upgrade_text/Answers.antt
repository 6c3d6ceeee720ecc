use Rattle.std.proofs.Common.{ap, refl}
use Rattle.fx_program.specs.Output.{upgraded_output}
use Rattle.fx_program.proofs.Endings.{ends_by}
use Rattle.fx_program.proofs.Commands.{all_read, not_read, part_read, read_failed}
use Rattle.fx_program.proofs.Limits.{long_book}
use Rattle.fx_program.proofs.upgrading.upgrade_text.Goals as goal

pub returns-in_err-text : goal.returns-in_err-text
returns-in_err-text g c shelf closed =
    read_failed _ (λ text. refl) c.in_err-text.ensures.unchanged c.in_err-text.field-0.0 _ _
    c.from_residual.result c.from_residual.ensures.1 c.in_err-text.ensures.cause

pub returns-in-TooLong : goal.returns-in-TooLong
returns-in-TooLong g c shelf closed =
    part_read _ (λ text. refl) c.in_ok-text.ensures.unchanged c.in_ok-text.ensures.cause 268435456
    (rw c.in-TooLong.is at c.in_ok-text.ensures.answer)
    (λ text long. ends_by (ap upgraded_output (long_book text long)) (c.refuse_book.ensures.whatever _ shelf closed))
    (λ low. not_read 268435456)

pub returns-in-Ok : goal.returns-in-Ok
returns-in-Ok g c shelf closed =
    all_read _ (λ text. refl) c.in_ok-text.ensures.unchanged c.in_ok-text.ensures.cause 268435456 _
    (rw c.in-Whole.is at c.in_ok-text.ensures.answer)
    (ends_by (ap upgraded_output c.in-Ok.ensures.read) (c.list_book.ensures.whatever _ shelf closed))

pub returns-in-Err-Fault : goal.returns-in-Err-Fault
returns-in-Err-Fault g c shelf closed =
    all_read _ (λ text. refl) c.in_ok-text.ensures.unchanged c.in_ok-text.ensures.cause 268435456 _
    (rw c.in-Whole.is at c.in_ok-text.ensures.answer)
    (ends_by (ap upgraded_output (rw c.in-Err-Fault.field-0-is at c.in-Err-Fault.ensures.read))
    (c.refuse_book-in-Err-Fault.ensures.whatever _ shelf closed))
