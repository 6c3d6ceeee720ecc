-- The book of a question of a step, by what the search answers.
use Rattle.std.proofs.Common.{ℕ, ◌≡◌, true, false, List, [], ◌∷◌, ◌++◌, Some, None, is_some, sym, ap, ◌∙◌}
use Rattle.std.proofs.Common.{append-nil}
use Rattle.std.specs.Prelude.{not}
use Rattle.std.specs.Option.{option_map}
use Rattle.std.proofs.lemmas.Bool.{cond-true, cond-false, or_right, or_left}
use Rattle.fx_designs.specs.Problems.{Problem}
use Rattle.fx_designs.specs.Answers.{answer}
use Rattle.fx_designs.specs.Patterns.{pattern_of}
use Rattle.fx_vectors.specs.declared.book.Book.{Book}
use Rattle.fx_vectors.specs.declared.book.NamedBook.{NamedBook}
use Rattle.fx_book.specs.QuestionBooks.{beat_of, book_for, has_book}
use Rattle.fx_answer.specs.Books.{book_at}

module _ (number : ℕ) (p : Problem) where
  with_book : (book : Book) → book ≡ book_for p → has_book p ≡ true
      → record { question = number; book = book } ∷ [] ≡ book_at number p
  with_book book is has =
      ap (λ b. record { question = number; book = b } ∷ []) is ∙ sym (cond-true _ _ _ has)

  -- without an answer
  pub book_of_none : (book : Book) → book ≡ book_for p → answer p ≡ None
      → record { question = number; book = book } ∷ [] ≡ book_at number p
  book_of_none book is none = with_book book is (or_right p.least _ (ap (λ o. not (is_some o)) none))

  -- where a least pattern is asked
  pub book_of_least : (book : Book) → book ≡ book_for p → p.least ≡ true
      → record { question = number; book = book } ∷ [] ≡ book_at number p
  book_of_least book is least = with_book book is (or_left p.least _ least)

  -- no book is added for an answer where no least pattern is asked
  pub no_book : (rows : List ℕ) (books : List NamedBook) → p.least ≡ false → answer p ≡ Some rows
      → books ≡ books ++ book_at number p
  no_book rows books plain is =
      let none : has_book p ≡ false = cc in
      sym (append-nil books) ∙ ap (λ l. books ++ l) (sym (cond-false _ _ _ none))

-- the pattern to beat is that of the answer
pub to_beat : (p : Problem) (rows beat : List ℕ) → p.least ≡ true → answer p ≡ Some rows
    → beat ≡ pattern_of p.dimensions rows → beat_of p ≡ Some beat
to_beat p rows beat least is equal =
    cond-true p.least _ _ least ∙ ap (option_map (pattern_of p.dimensions)) is ∙ ap Some (sym equal)
