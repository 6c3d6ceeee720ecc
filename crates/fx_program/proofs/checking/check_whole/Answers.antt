use Rattle.std.proofs.Common.{◌≡◌, sym, ap, ◌∙◌}
use Rattle.std.proofs.lemmas.Bool.{cond-false, cond-true}
use Rattle.fx_book.specs.Heads.{book_of}
use Rattle.fx_table_book.specs.Texts as tables
use Rattle.fx_program.specs.Commands.{checked_output, is_of_table}
use Rattle.fx_program.specs.Output.{verdict_output}
use Rattle.fx_program.specs.TableVerdicts.{table_verdict}
use Rattle.fx_program.proofs.Endings.{lists_by}
use Rattle.fx_program.proofs.checking.check_whole.Goals as goal

pub returns-then-is_of_table : goal.returns-then-is_of_table
returns-then-is_of_table g c =
    lists_by
    (cond-true (is_of_table c.args.text) (table_verdict (tables.book_of c.args.text))
    (verdict_output (book_of c.args.text))
    (ap is_of_table (sym c.as_slice.ensures) ∙ sym c.is_of_table.ensures ∙ c.if-is_of_table.true))
    c.check_table_text.ensures

pub returns-in-Ok : goal.returns-in-Ok
returns-in-Ok g c =
    let of_marks : checked_output c.args.text ≡ verdict_output (book_of c.args.text) =
    cond-false (is_of_table c.args.text) (table_verdict (tables.book_of c.args.text))
    (verdict_output (book_of c.args.text))
    (ap is_of_table (sym c.as_slice.ensures) ∙ sym c.is_of_table.ensures ∙ c.if-is_of_table.false) in
    lists_by (of_marks ∙ ap verdict_output c.in-Ok.ensures.read) c.list_verdict.ensures

pub returns-in-Err-Fault : goal.returns-in-Err-Fault
returns-in-Err-Fault g c =
    let of_marks : checked_output c.args.text ≡ verdict_output (book_of c.args.text) =
    cond-false (is_of_table c.args.text) (table_verdict (tables.book_of c.args.text))
    (verdict_output (book_of c.args.text))
    (ap is_of_table (sym c.as_slice.ensures) ∙ sym c.is_of_table.ensures ∙ c.if-is_of_table.false) in
    lists_by (of_marks ∙ ap verdict_output (rw c.in-Err-Fault.field-0-is at c.in-Err-Fault.ensures.read))
    c.refuse_book.ensures
