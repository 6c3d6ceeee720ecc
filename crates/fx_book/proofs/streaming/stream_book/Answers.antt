use Rattle.std.proofs.Common.{◌≡◌, ◌++◌, List, ℕ, Result, Ok, Err, refl, ap, ◌∙◌}
use Rattle.std.specs.Prelude.{codes}
use Rattle.fx_base.specs.declared.sink.Sink as sink
use Rattle.fx_vectors.specs.declared.book.Book.{Book}
use Rattle.fx_vectors.specs.Shape.{dimensions_of}
use Rattle.fx_book.specs.declared.version.Version.TheVariants.{Second}
use Rattle.fx_book.specs.Entries.{entries_text}
use Rattle.fx_book.specs.Streaming.{WritesTo}
use Rattle.fx_book.specs.Writing.{book_text, head_text}
use Rattle.fx_book.specs.declared.streaming.WriteStop.{WriteStop}
use Rattle.fx_book.specs.declared.streaming.WriteStop.TheVariants.{WriteFault}
use Rattle.fx_book.proofs.Joins.{by_front}
use Rattle.fx_book.proofs.Streams.{all_written, cut_written, nothing_written, stopped_first, written_then}
use Rattle.fx_book.proofs.streaming.stream_book.Goals as goal

-- the entries of a book, and its last line
abbrev entries : Book → List ℕ
entries book = entries_text Second (dimensions_of book.head.question.shape) book.marks

abbrev rest : Book → List ℕ
rest book = entries book ++ codes "END\n"

pub returns-in_err-front : goal.returns-in_err-front
returns-in_err-front g c = nothing_written g.K.Sink _ _ c.from_residual.result c.from_residual.ensures.1

pub returns-in_err-write_all : goal.returns-in_err-write_all
returns-in_err-write_all g c =
    let book = c.args.book.now in
    let ended = c.from_residual-in_err-write_all.result in
    let cut = c.in_err-write_all.ensures in
    let front = c.as_slice.ensures ∙ c.in_ok-front.ensures in
    rw (ap (λ l. l ++ rest book) front ∙ by_front book) at
    (stopped_first g.K.Sink c.as_slice.result.now (rest book) WriteFault
    (cut_written g.K.Sink {T = Unit {0}} c.as_slice.result.now cut.unchanged (Err WriteFault) refl cut.part
    cut.cause.failed cut.cause.later)
    ended c.from_residual-in_err-write_all.ensures.1)

-- the first four lines were written, and then the rest, or a part of it
written_front : (K : Type 0) (members : sink.Ghosts K) (book : Book) (front : List ℕ) (old mid new : K)
    (ended : Result (Unit {0}) WriteStop) → front ≡ codes "factex-book 2\n" ++ head_text book.head
    → WritesTo {T = Unit {0}} members front old mid (Ok tt) → WritesTo members (rest book) mid new ended
    → WritesTo members (book_text book) old new ended
written_front K members book front old mid new ended is first second =
    rw (ap (λ l. l ++ rest book) is ∙ by_front book) at (written_then members front _ first second)

pub returns-in_err-stream_entries : goal.returns-in_err-stream_entries
returns-in_err-stream_entries g c =
    let book = c.args.book.now in
    let ended = c.from_residual-in_err-stream_entries.result in
    let whole = c.in_ok-write_all.ensures in
    written_front _ g.K.Sink book c.as_slice.result.now _ _ _ ended (c.as_slice.ensures ∙ c.in_ok-front.ensures)
    (all_written g.K.Sink _ whole.unchanged tt whole.done whole.cause.unchanged)
    (stopped_first g.K.Sink _ (codes "END\n") c.in_err-stream_entries.field-0.0
    c.in_err-stream_entries.ensures ended c.from_residual-in_err-stream_entries.ensures.1)

pub returns-in_err-write_all-2 : goal.returns-in_err-write_all-2
returns-in_err-write_all-2 g c =
    let book = c.args.book.now in
    let ended = c.from_residual-in_err-write_all-2.result in
    let whole = c.in_ok-write_all.ensures in
    let cut = c.in_err-write_all-2.ensures in
    written_front _ g.K.Sink book c.as_slice.result.now _ _ _ ended (c.as_slice.ensures ∙ c.in_ok-front.ensures)
    (all_written g.K.Sink _ whole.unchanged tt whole.done whole.cause.unchanged)
    (written_then g.K.Sink _ (codes "END\n") c.in_ok-stream_entries.ensures
    (cut_written g.K.Sink _ cut.unchanged ended c.from_residual-in_err-write_all-2.ensures.1 cut.part
    cut.cause.failed cut.cause.later))

pub returns : goal.returns
returns g c =
    let book = c.args.book.now in
    let whole = c.in_ok-write_all.ensures in
    let last = c.in_ok-write_all-2.ensures in
    written_front _ g.K.Sink book c.as_slice.result.now _ _ _ _ (c.as_slice.ensures ∙ c.in_ok-front.ensures)
    (all_written g.K.Sink _ whole.unchanged tt whole.done whole.cause.unchanged)
    (written_then g.K.Sink _ (codes "END\n") c.in_ok-stream_entries.ensures
    (all_written g.K.Sink _ last.unchanged tt last.done last.cause.unchanged))
