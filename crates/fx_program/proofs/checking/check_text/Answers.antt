use Rattle.std.proofs.Common.{◌≡◌, ◌<◌, Bool, true, false, cond, ℕ, List, length, refl, ap, arith}
use Rattle.fx_book.specs.Heads.{book_of}
use Rattle.fx_table_book.specs.Texts as tables
use Rattle.fx_book.specs.declared.fault.FaultKind.TheVariants.{TooLong}
use Rattle.fx_program.specs.Commands.{checked_output, is_of_table}
use Rattle.fx_program.specs.Output.{Output, message, verdict_output}
use Rattle.fx_program.specs.TableVerdicts.{table_verdict}
use Rattle.fx_program.specs.Verdicts.{book_fault_line}
use Rattle.fx_program.proofs.Endings.{ends_by}
use Rattle.fx_program.proofs.Commands.{all_read, not_read, part_read, read_failed}
use Rattle.fx_program.proofs.Limits.{long_book, long_table}
use Rattle.fx_program.proofs.checking.check_text.Goals as goal

same : (b : Bool) (x y z : Output) → x ≡ z → y ≡ z → cond b x y ≡ z
same true x y z hx hy = hx
same false x y z hx hy = hy

-- no book of either kind
too_long : (text : List ℕ) → 268435456 < length text
    → checked_output text ≡ message (book_fault_line (record { kind = TooLong; line = 1 })) 1
too_long text long =
    same (is_of_table text) (table_verdict (tables.book_of text)) (verdict_output (book_of text)) _
    (ap table_verdict (long_table text (omega (arith, long)))) (ap verdict_output (long_book text long))

pub returns-in_err-text : goal.returns-in_err-text
returns-in_err-text g c shelf closed =
    read_failed _ (λ text. refl) c.in_err-text.ensures.unchanged c.in_err-text.field-0.0 _ _
    c.from_residual.result c.from_residual.ensures.1 c.in_err-text.ensures.cause

pub returns-in-TooLong : goal.returns-in-TooLong
returns-in-TooLong g c shelf closed =
    part_read _ (λ text. refl) c.in_ok-text.ensures.unchanged c.in_ok-text.ensures.cause 268435456
    (rw c.in-TooLong.is at c.in_ok-text.ensures.answer)
    (λ text long. ends_by (too_long text long) (c.refuse_book.ensures.whatever _ shelf closed))
    (λ low. not_read 268435456)

pub returns : goal.returns
returns g c shelf closed =
    all_read _ (λ text. refl) c.in_ok-text.ensures.unchanged c.in_ok-text.ensures.cause 268435456 _
    (rw c.in-Whole.is at c.in_ok-text.ensures.answer)
    (c.check_whole.ensures.whatever _ shelf closed)
