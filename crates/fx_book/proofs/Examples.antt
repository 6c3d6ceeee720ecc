-- Books and their texts, computed.
use Rattle.std.proofs.Common.{◌≡◌, List, [], ◌∷◌, ◌++◌, length, refl, Option, Some, None, Ok, Err, ℕ}
use Rattle.std.specs.Prelude.{codes}
use Rattle.std.specs.Fmt.{digits}
use Rattle.std.specs.Int.Count.{ones}
use Rattle.fx_designs.specs.Nodes.{Mark, Branch, Word, Worse}
use Rattle.fx_vectors.specs.Effects.{factors_of}
use Rattle.fx_vectors.specs.declared.question.Demands.{Demands}
use Rattle.fx_vectors.specs.declared.question.Demands.TheVariants.{Resolution, Effects}
use Rattle.fx_vectors.specs.declared.book.Book.{Book}
use Rattle.std.specs.Option.{is_some}
use Rattle.fx_book.specs.declared.fault.FaultKind.TheVariants as kind
use Rattle.fx_book.specs.Faults.{fault}
use Rattle.fx_book.specs.Demands.{numbered_effects}
use Rattle.fx_book.specs.Heads.{book_of}
use Rattle.fx_book.specs.declared.version.Version.TheVariants.{First}
use Rattle.fx_book.specs.Writing.{book_text, text_in}

abbrev book : ℕ → ℕ → ℕ → ℕ → Demands → Option (List ℕ) → List Mark → Book
book q m s t demands beat marks =
    record {
      head = record {
        question = record { shape = record { q = q; m = m; s = s; t = t }; demands = demands; least = is_some beat };
        beat = beat;
      };
      marks = marks;
    }

-- five factors in eight runs at resolution 4: of A, B and C every child is a branch, and so is D = ABC; each row for E
-- closes
abbrev five_in_eight : Book
five_in_eight =
    book 2 3 5 0 (Resolution 4) None
    (Branch 1 ∷ Branch 2 ∷ Branch 4 ∷ Branch 7 ∷ Word 6 25 ∷ Word 5 26 ∷ Word 3 28 ∷ Word 6 14 ∷ Word 5 13 ∷ Word 3 11
    ∷ [])

abbrev first_text : List ℕ
first_text =
    codes "factex-book 1\nsize 2 3 5 0\nresolution 4\npattern none\nO 1\nO 2\nO 4\nO 7\nW 6 25\nW 5 26\nW 3 28\nW 6 14\nW 5 13\nW 3 11\nEND\n"

abbrev second_text : List ℕ
second_text =
    codes "factex-book 2\nsize 2 3 5 0\nresolution 4\npattern none\nO 1\nO 2\nO 4\nO 7\nW 6 1:1 4:1 5:1\nW 5 2:1 4:1 5:1\nW 3 3:1 4:1 5:1\nW 6 2:1 3:1 4:1\nW 5 1:1 3:1 4:1\nW 3 1:1 2:1 4:1\nEND\n"

written : (text_in First five_in_eight ≡ first_text) × (book_text five_in_eight ≡ second_text)
unfolding digits
written = (refl, refl)

read : (book_of first_text ≡ Ok five_in_eight) × (book_of second_text ≡ Ok five_in_eight)
unfolding book_of
read = (refl, refl)

-- the main effects of two factors in two runs, nothing else being nonnegligible
abbrev two_in_two : Book
two_in_two =
    book 2 1 2 0 (Effects (numbered_effects (1 ∷ 2 ∷ [])) []) None (Branch 1 ∷ Word 1 3 ∷ Word 0 2 ∷ Word 0 1 ∷ [])

effects_written_and_read :
    (book_text two_in_two
    ≡ codes "factex-book 2\nsize 2 1 2 0\neffects 1 2 /\npattern none\nO 1\nW 1 1:1 2:1\nW 0 2:1\nW 0 1:1\nEND\n")
    × (book_of
    (codes "factex-book 2\nsize 2 1 2 0\neffects 1 2 /\npattern none\nO 1\nW 1 1:1 2:1\nW 0 2:1\nW 0 1:1\nEND\n")
    ≡ Ok two_in_two)
unfolding book_of digits factors_of ones
effects_written_and_read = (refl, refl)

-- four factors in eight runs: no pattern is less than that of D = ABC
abbrev four_in_eight : Book
four_in_eight =
    book 2 3 4 0 (Resolution 3) (Some (0 ∷ 0 ∷ 0 ∷ 1 ∷ []))
    (Branch 1 ∷ Branch 2 ∷ Branch 4 ∷ Worse 7 ∷ Worse 6 ∷ Worse 5 ∷ Worse 3 ∷ [])

pattern_written_and_read :
    (book_text four_in_eight
    ≡ codes "factex-book 2\nsize 2 3 4 0\nresolution 3\npattern 0 0 0 1\nO 1\nO 2\nO 4\nP 7\nP 6\nP 5\nP 3\nEND\n")
    × (book_of
    (codes "factex-book 2\nsize 2 3 4 0\nresolution 3\npattern 0 0 0 1\nO 1\nO 2\nO 4\nP 7\nP 6\nP 5\nP 3\nEND\n")
    ≡ Ok four_in_eight)
unfolding book_of digits
pattern_written_and_read = (refl, refl)

-- a word of nine factors is written by its number, and one of eight by its entries
abbrev nine_in_eight : Book
nine_in_eight = book 2 3 9 0 (Resolution 3) None (Word 1 511 ∷ Word 1 255 ∷ [])

abbrev nine_text : List ℕ
nine_text =
    codes "factex-book 2\nsize 2 3 9 0\nresolution 3\npattern none\nW 1 #511\nW 1 1:1 2:1 3:1 4:1 5:1 6:1 7:1 8:1\nEND\n"

long_written_and_read : (book_text nine_in_eight ≡ nine_text) × (book_of nine_text ≡ Ok nine_in_eight)
unfolding book_of digits
long_written_and_read = (refl, refl)

-- a leading zero in an entry, a row of more runs than there are, and a book that goes on after its end
faults :
    (book_of (codes "factex-book 1\nsize 2 3 5 0\nresolution 4\npattern none\nO 01\nEND\n") ≡ Err (fault kind.Form 5))
    × (book_of (codes "factex-book 1\nsize 2 3 5 0\nresolution 4\npattern none\nO 8\nEND\n") ≡ Err (fault kind.Range 5))
    × (book_of (codes "factex-book 1\nsize 2 3 5 0\nresolution 4\npattern none\nO 1\n") ≡ Err (fault kind.Unfinished 6))
    × (book_of (codes "factex-book 1\nsize 2 3 5 0\nresolution 4\npattern none\nEND\nEND\n")
    ≡ Err (fault kind.Trailing 6))
    × (book_of (codes "factex-book 3\n") ≡ Err (fault kind.Title 1))
unfolding book_of
faults = (refl, refl, refl, refl, refl)

abbrev second_with : List ℕ → List ℕ
second_with line = codes "factex-book 2\nsize 3 2 9 0\nresolution 4\npattern none\n" ++ (line ++ codes "\nEND\n")

-- a word in the form of the first version, a part that is no entry, and a `#` that is not alone
bad_forms :
    (book_of (second_with (codes "W 6 25")) ≡ Err (fault kind.Form 5))
    × (book_of (second_with (codes "W 6 4:1 5")) ≡ Err (fault kind.Form 5))
    × (book_of (second_with (codes "W 6 4:1:1")) ≡ Err (fault kind.Form 5))
    × (book_of (second_with (codes "W 6 4:01")) ≡ Err (fault kind.Form 5))
    × (book_of (second_with (codes "W 6 #9840 4:1")) ≡ Err (fault kind.Form 5))
    × (book_of (second_with (codes "W 6 #")) ≡ Err (fault kind.Form 5))
    × (book_of (second_with (codes "W 6 4:1 ")) ≡ Err (fault kind.Form 5))
    × (book_of (second_with (codes "W 99 9:9 x")) ≡ Err (fault kind.Form 5))
unfolding book_of
bad_forms = (refl, refl, refl, refl, refl, refl, refl, refl)

-- places that do not rise, a place past the rows and one before them, codes that are 0 or no level, nine entries, a row
-- of more runs than there are, and numbers after `#` of a word with fewer than nine entries or of none
bad_ranges :
    (book_of (second_with (codes "W 6 4:1 1:1 5:1")) ≡ Err (fault kind.Range 5))
    × (book_of (second_with (codes "W 6 4:1 4:1")) ≡ Err (fault kind.Range 5))
    × (book_of (second_with (codes "W 6 10:1")) ≡ Err (fault kind.Range 5))
    × (book_of (second_with (codes "W 6 0:1")) ≡ Err (fault kind.Range 5))
    × (book_of (second_with (codes "W 6 4:0")) ≡ Err (fault kind.Range 5))
    × (book_of (second_with (codes "W 6 4:3")) ≡ Err (fault kind.Range 5))
    × (book_of (second_with (codes "W 6 1:1 2:1 3:1 4:1 5:1 6:1 7:1 8:1 9:1")) ≡ Err (fault kind.Range 5))
    × (book_of (second_with (codes "W 9 4:1")) ≡ Err (fault kind.Range 5))
    × (book_of (second_with (codes "W 6 #9")) ≡ Err (fault kind.Range 5))
    × (book_of (second_with (codes "W 6 #19683")) ≡ Err (fault kind.Range 5))
unfolding book_of digits
bad_ranges = (refl, refl, refl, refl, refl, refl, refl, refl, refl, refl)

-- a text of one byte more than 268,435,456 is no book, whatever it says
limit : (text : List ℕ) → length text ≡ 268435457 → book_of text ≡ Err (fault kind.TooLong 1)
unfolding book_of
limit text long = rw long refl
