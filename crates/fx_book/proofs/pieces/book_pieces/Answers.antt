use Rattle.std.proofs.Common.{◌≡◌, [], ◌∷◌, ◌++◌, length, ap, ◌∙◌}
use Rattle.std.specs.Prelude.{codes}
use Rattle.std.specs.List.{slice_range}
use Rattle.fx_base.specs.Pieces.{joined}
use Rattle.fx_vectors.specs.Shape.{dimensions_of}
use Rattle.fx_book.specs.declared.version.Version.TheVariants.{Second}
use Rattle.fx_book.specs.Entries.{entries_text}
use Rattle.fx_book.proofs.Joins.{book-joined}
use Rattle.fx_book.proofs.pieces.book_pieces.Goals as goal

pub returns : goal.returns
returns g c =
    let book = c.args.book.now in
    let front = c.in_ok-front.front in
    let end = c.put.new.out in
    let entries = c.in_ok-entries.entries in
    let some = c.append.new.self in
    let last =
    c.in_ok-put.ensures.ok ∙ ap (λ l. l ++ codes "END\n") c.new-end.ensures in
    let between : joined entries
    ≡ entries_text Second (dimensions_of book.head.question.shape) (slice_range book.marks 0 (length book.marks)) =
    cc (c.in_ok-entries.ensures, c.len-2.ensures) in
    let both : some ≡ (front ∷ []) ++ entries =
    cc (c.in_ok-append.ensures.ok, c.in_ok-pieces.ensures) in
    book-joined book front end entries some c.push.new.self c.in_ok-front.ensures last between both
    c.in_ok-push.ensures.ok
