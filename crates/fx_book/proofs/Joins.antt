-- The text of a book from its pieces.
use Rattle.std.proofs.Common.{◌≡◌, ◌≤◌, List, [], ◌∷◌, ◌++◌, ℕ, length, ◌∙◌, append_assoc, append-nil}
use Rattle.std.specs.Prelude.{codes}
use Rattle.std.specs.List.{slice_range}
use Rattle.fx_vectors.specs.declared.book.Book.{Book}
use Rattle.fx_designs.specs.Nodes as nodes
use Rattle.fx_base.specs.Pieces.{joined}
use Rattle.fx_base.proofs.Joined.{joined-append}
use Rattle.fx_designs.specs.Problems.{Dimensions}
use Rattle.fx_vectors.specs.Shape.{dimensions_of}
use Rattle.fx_book.specs.declared.version.Version.TheVariants.{Second}
use Rattle.fx_book.specs.Entries.{entries_text}
use Rattle.fx_book.specs.Writing.{head_text, shape_text, demands_text, beat_text, book_text}
use Rattle.fx_book.proofs.Lines.{entries-append}
use Rattle.fx_book.proofs.Ranges.{range-range, range-all}

-- the entries of a range, from those of its two parts
pub entries-both : (d : Dimensions) (marks : List nodes.Mark) (from middle to : ℕ) (front back all : List (List ℕ))
    → from ≤ middle → middle ≤ to
    → joined front ≡ entries_text Second d (slice_range marks from middle)
    → joined back ≡ entries_text Second d (slice_range marks middle to) → all ≡ front ++ back
    → joined all ≡ entries_text Second d (slice_range marks from to)
entries-both d marks from middle to front back all low high f b same =
    cc (
      joined-append front back,
      entries-append Second d (slice_range marks from middle) (slice_range marks middle to),
      range-range marks from middle to low high,
    )

-- the text of a book by its first line, the three about its question, its entries and its last line
pub by_parts : (book : Book)
    → codes "factex-book 2\n"
    ++ (head_text book.head
    ++ (entries_text Second (dimensions_of book.head.question.shape) book.marks ++ codes "END\n")) ≡ book_text book
by_parts book =
    let shape = shape_text book.head.question.shape in
    let demands = demands_text book.head.question.demands in
    let beat = beat_text book.head.beat in
    let rest = entries_text Second (dimensions_of book.head.question.shape) book.marks ++ codes "END\n" in
    cc (append_assoc shape (demands ++ beat) rest, append_assoc demands beat rest)

-- the same with the first four lines as one text
pub by_front : (book : Book)
    → (codes "factex-book 2\n" ++ head_text book.head)
    ++ (entries_text Second (dimensions_of book.head.question.shape) book.marks ++ codes "END\n") ≡ book_text book
by_front book =
    append_assoc (codes "factex-book 2\n") (head_text book.head)
    (entries_text Second (dimensions_of book.head.question.shape) book.marks ++ codes "END\n")
    ∙ by_parts book

-- the text of a book, from its first four lines, its entries and its last line
pub book-joined : (book : Book) (front end : List ℕ) (entries some all : List (List ℕ))
    → front ≡ codes "factex-book 2\n" ++ head_text book.head → end ≡ codes "END\n"
    → joined entries
    ≡ entries_text Second (dimensions_of book.head.question.shape) (slice_range book.marks 0 (length book.marks))
    → some ≡ (front ∷ []) ++ entries → all ≡ some ++ end ∷ []
    → joined all ≡ book_text book
book-joined book front end entries some all f e between s a =
    let d = dimensions_of book.head.question.shape in
    let end_is = append-nil end ∙ e in
    cc (
      joined-append (front ∷ entries) (end ∷ []),
      append_assoc front (joined entries) (codes "END\n"),
      range-all
          book.marks,
      by_front book,
    )
