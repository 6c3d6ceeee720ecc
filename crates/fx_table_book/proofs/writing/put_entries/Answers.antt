use Rattle.std.proofs.Common.{List, arith, append-nil, sym, subst}
use Rattle.fx_base.specs.Writing.{HoldsPart}
use Rattle.fx_base.proofs.Held.{at_err, one_more, in_item}
use Rattle.fx_table_book.specs.declared.book.Entry.{Entry}
use Rattle.fx_table_book.specs.Tables.{entry_of, entries_of}
use Rattle.fx_table_book.specs.Texts.{entry_text, entries_text}
use Rattle.fx_table_book.proofs.Lines.{entries-append}
use Rattle.fx_table_book.proofs.writing.put_entries.Goals as goal

pub loop-i-preserved : goal.loop-i-preserved
loop-i-preserved c =
    one_more (λ (entries : List Entry). entries_text (entries_of entries)) entries-append c.args.entries.now
    c.loop-i.i c.get.result.now c.args.out.now c.loop-i.out c.write_table_entry.new.out
    (omega arith) c.get.ensures c.loop-i.invariant
    (cc (c.in_ok-write_table_entry.ensures.ok, append-nil (entry_text (entry_of c.get.result.now))))

pub returns-in_err-write_table_entry-clause-err : goal.returns-in_err-write_table_entry-clause-err
returns-in_err-write_table_entry-clause-err c =
    at_err c.from_residual.result
    (in_item (λ (entries : List Entry). entries_text (entries_of entries)) entries-append c.args.entries.now
    c.loop-i.i c.get.result.now c.args.out.now c.loop-i.out c.write_table_entry.new.out
    (omega arith) c.get.ensures c.loop-i.invariant
    (subst (HoldsPart c.loop-i.out c.write_table_entry.new.out)
    (sym (append-nil (entry_text (entry_of c.get.result.now))))
    c.in_err-write_table_entry.ensures.err))
