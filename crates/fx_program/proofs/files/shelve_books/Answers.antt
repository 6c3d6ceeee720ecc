use Rattle.std.proofs.Common.{rules, ◌≡◌, ◌<◌, ◌≤◌, List, ℕ, length, get_or, sym, subst, ap, ◌∙◌}
use Rattle.fx_base.specs.Pieces.{joined}
use Rattle.fx_vectors.specs.declared.book.NamedBook.{NamedBook}
use Rattle.fx_book.specs.Writing.{book_text}
use Rattle.fx_program.specs.Files.{book_name}
use Rattle.fx_program.proofs.Filing.{shelved_each, shelved_more, shelved_none, stopped_before, stopped_in}
use Rattle.fx_program.proofs.files.shelve_books.Goals as goal
use Rattle.fx_answer.specs.Outcomes.{HasShape}

-- the name and the content of the file of a book
abbrev name : ℕ → NamedBook → List ℕ
name number named = book_name number named.question

abbrev content : NamedBook → List ℕ
content named = book_text named.book

pub loop-named-init : goal.loop-named-init
loop-named-init g c = shelved_none _ c.requires.ended

pub returns-in_err-pieces : goal.returns-in_err-pieces
returns-in_err-pieces g c =
    stopped_before (name c.args.number) content c.args.books.now c.loop-named.named-index c.loop-named.invariant
    c.from_residual.result c.from_residual.ensures.1

pub returns-in_err-shelve_pieces : goal.returns-in_err-shelve_pieces
returns-in_err-shelve_pieces g c =
    let books = c.args.books.now in
    let item = c.named-item.result in
    let is : item ≡ get_or books c.loop-named.named-index item = search rules in
    let more : c.loop-named.named-index < length books = search rules in
    let named = c.as_slice.ensures.value ∙ c.book_name-name.ensures in
    let filled = ap joined c.as_slice-in-loop-named.ensures ∙ c.in_ok-pieces.ensures in
    stopped_in (name c.args.number) content books c.loop-named.named-index item is _ _ named filled
    more c.loop-named.invariant c.in_err-shelve_pieces.ensures.unchanged
    c.in_err-shelve_pieces.ensures.part c.in_err-shelve_pieces.ensures.cause.failed
    c.from_residual-in_err-shelve_pieces.result c.from_residual-in_err-shelve_pieces.ensures.1

pub loop-named-preserved : goal.loop-named-preserved
loop-named-preserved g c =
    let books = c.args.books.now in
    let item = c.named-item.result in
    let is : item ≡ get_or books c.loop-named.named-index item = search rules in
    let more : c.loop-named.named-index < length books = search rules in
    let named = c.as_slice.ensures.value ∙ c.book_name-name.ensures in
    let filled = ap joined c.as_slice-in-loop-named.ensures ∙ c.in_ok-pieces.ensures in
    shelved_more (name c.args.number) content books c.loop-named.named-index item is _ _ named filled
    more c.loop-named.invariant c.in_ok-shelve_pieces.ensures.unchanged
    c.in_ok-shelve_pieces.ensures.done c.in_ok-shelve_pieces.ensures.state c.in_ok-shelve_pieces.ensures.cause.unchanged

pub returns : goal.returns
returns g c =
    let past : length c.args.books.now ≤ c.loop-named.named-index = search rules in
    shelved_each (name c.args.number) content c.args.books.now c.loop-named.named-index _ past c.loop-named.invariant

pub book_pieces-requires-clause-shaped : goal.book_pieces-requires-clause-shaped
book_pieces-requires-clause-shaped g c lifetimes live =
    let books = c.args.books.now in
    let item = c.named-item.result in
    let is : item ≡ get_or books c.loop-named.named-index item = search rules in
    let more : c.loop-named.named-index < length books = search rules in
    subst HasShape (sym is) (c.requires.shapes c.loop-named.named-index item more)
