-- A book of marks is none of a table.
use Rattle.std.proofs.Common.{ℕ, ◌≡◌, ◌∷◌, ◌++◌, Bool, true, false, cond, List, [], length, drop, take, Ok, Err}
use Rattle.std.proofs.Common.{refl}
use Rattle.std.proofs.Common.{subst, inl, inr, take-append-drop}
use Rattle.std.specs.Prelude.{None, codes, is_some}
use Rattle.std.specs.Str.{bytes_eq}
use Rattle.std.proofs.lemmas.Bool.{cases_Bool, cond-false, or_cases}
use Rattle.std.proofs.lemmas.Slice.Eq.{bytes_eq-Decides}
use Rattle.fx_vectors.specs.declared.book.Book.{Book}
use Rattle.fx_book.specs.declared.fault.BookFault.{BookFault}
use Rattle.fx_book.specs.Heads.{book_of, from_title}
use Rattle.fx_book.specs.Parts.{lines_of}
use Rattle.fx_book.specs.Versions.{version_of}
use Rattle.fx_book.specs.Writing.{book_text}
use Rattle.fx_book.proofs.Back.{Without, split_line}
use Rattle.fx_table_book.specs.Texts as tables
use Rattle.fx_program.specs.Commands.{checked_output, is_of_table}
use Rattle.fx_program.specs.Output.{verdict_output}
use Rattle.fx_program.specs.Words.{after_prefix}

-- a text that begins so
begins : (front text : List ℕ) → is_some (after_prefix front text) ≡ true → text ≡ front ++ drop (length front) text
begins front text some =
    elim (cases_Bool (bytes_eq (take (length front) text) front)) [
      | inl same ↦
          cc (take-append-drop (length front) text, (bytes_eq-Decides (take (length front) text) front).0 same)
      | inr other ↦ cc (rw other at some)
    ]

module _ (title : List ℕ) (plain : Without 10 title) (other : version_of title ≡ None) where
  titled : (rest : List (List ℕ)) (book : Book) → from_title (title ∷ rest) ≡ Ok book → ⊥
  titled [] book e = cc e
  titled (next ∷ rest) book e = cc (rw other at e)

  none_read : (b : Bool) (fault : BookFault) (rest : List ℕ) (book : Book)
      → cond b (Err fault) (from_title (lines_of (title ++ 10 ∷ rest))) ≡ Ok book → ⊥
  none_read true fault rest book e = cc e
  none_read false fault rest book e = titled _ book (rw (split_line 10 title rest plain) at e)

  no_book : (rest : List ℕ) (book : Book) → book_of (title ++ 10 ∷ rest) ≡ Ok book → ⊥
  unfolding book_of
  no_book rest book e = none_read _ _ rest book e

first_plain : Without 10 (codes "factex-table 1")
first_plain =
    (refl, (refl, (refl, (refl, (refl, (refl, (refl, (refl, (refl, (refl, (refl, (refl, (refl, (refl, tt))))))))))))))

second_plain : Without 10 (codes "factex-table 2")
second_plain =
    (refl, (refl, (refl, (refl, (refl, (refl, (refl, (refl, (refl, (refl, (refl, (refl, (refl, (refl, tt))))))))))))))

-- what is read as a book of marks does not begin as one of a table
pub marks_alone : (text : List ℕ) (book : Book) → book_of text ≡ Ok book → is_of_table text ≡ false
marks_alone text book read =
    elim (cases_Bool (is_of_table text)) [
      | inr none ↦ none
      | inl some ↦ elim (or_cases _ _ some) [
        | inl first ↦
            absurd (no_book (codes "factex-table 1") first_plain refl (drop 15 text) book
            (subst (λ t. book_of t ≡ Ok book) (begins (codes "factex-table 1\n") text first) read))
        | inr second ↦
            absurd (no_book (codes "factex-table 2") second_plain refl (drop 15 text) book
            (subst (λ t. book_of t ≡ Ok book) (begins (codes "factex-table 2\n") text second) read))
      ]
    ]

-- so `check` takes it as a book of marks
pub checked_read : (text : List ℕ) (book : Book) → book_of text ≡ Ok book
    → checked_output text ≡ verdict_output (book_of text)
checked_read text book read =
    cond-false _ _ _
    (marks_alone text book read)

pub checked_marks : (book : Book) → checked_output (book_text book) ≡ verdict_output (book_of (book_text book))
checked_marks book = refl
