-- What the claims on books and catalogues give, and what they exclude: a claim that is weakened does neither.
use Rattle.std.proofs.Common.{ℕ, ◌≡◌, true, false, List, [], ◌∷◌, ◌++◌, Result, Ok, Err, ap, ◌∙◌, sym, subst, arith}
use Rattle.std.specs.Prelude.{codes}
use Rattle.fx_designs.specs.Runs.{runs_of}
use Rattle.fx_designs.specs.Problems.{Dimensions, AtResolution}
use Rattle.fx_designs.specs.Demands.{do_runs_meet}
use Rattle.fx_designs.specs.Patterns.{pattern_of, is_less}
use Rattle.fx_designs.specs.Matrices.{IsRuleMatrix, NoneMeets, row_numbers}
use Rattle.fx_vectors.specs.Question.{problem_of}
use Rattle.fx_vectors.specs.Shape.{dimensions_of}
use Rattle.fx_vectors.specs.declared.book.Book.{Book}
use Rattle.fx_book.specs.declared.fault.BookFault.{BookFault}
use Rattle.fx_book.specs.Heads.{book_of}
use Rattle.fx_checker.specs.Laws.{NoMatrix}
use Rattle.fx_strata.specs.Laws.{NoneBetter}
use Rattle.fx_catalogue.specs.declared.line.Line.TheVariants.{Budget}
use Rattle.fx_catalogue.specs.Catalogues.{Entry, is_nothing, shape_at}
use Rattle.fx_program.specs.Claims.{EndsWithNone, IsProvedBook, IsProvedTable}
use Rattle.fx_program.specs.TableVerdicts.{claim_in}

-- the claim of the book that was read
abbrev claim_read : Result Book BookFault → Type 0
claim_read (Ok book) = NoMatrix (problem_of book.head.question) book.head.beat
claim_read (Err fault) = Unit {0}

abbrev size : ℕ → ℕ → ℕ → ℕ → Dimensions
size q m s t = record { q = q; m = m; s = s; t = t }

-- a book of two levels without a pattern, and one of three levels
none_in_two_runs : IsProvedBook (codes "factex-book 2\nsize 2 1 3 0\nresolution 3\npattern none\nO 1\nEND\n")
    → NoneMeets (size 2 1 3 0) (AtResolution 3)
unfolding book_of
none_in_two_runs proved = subst claim_read (sym proved.read) proved.claim

none_in_nine_runs : IsProvedBook (codes "factex-book 2\nsize 3 2 5 0\nresolution 3\npattern none\nO 1\nEND\n")
    → NoneMeets (size 3 2 5 0) (AtResolution 3)
unfolding book_of
none_in_nine_runs proved = subst claim_read (sym proved.read) proved.claim

-- a book of two levels with a pattern
none_less :
    IsProvedBook (codes "factex-book 2\nsize 2 3 4 0\nresolution 3\npattern 0 0 0 1\nO 1\nEND\n")
    → (factors blocks : List (List ℕ))
    → IsRuleMatrix (size 2 3 4 0) factors blocks
    → do_runs_meet (size 2 3 4 0) (AtResolution 3) (runs_of 2 3 (factors ++ blocks)) ≡ true
    → is_less (pattern_of (size 2 3 4 0) (row_numbers (size 2 3 4 0) factors blocks)) (0 ∷ 0 ∷ 0 ∷ 1 ∷ []) ≡ false
unfolding book_of
none_less proved = subst claim_read (sym proved.read) proved.claim

-- a book of a table, with a key and without
none_better : (text : List ℕ) (proved : IsProvedTable text) → NoneBetter (claim_in proved.book)
none_better text proved = proved.claim

-- the line that ends a catalogue: with its number of factors there is none
none_at_the_last : (q m : ℕ) (list : List Entry) (ends : EndsWithNone q m list)
    → NoneMeets (dimensions_of (shape_at q m ends.last.factors)) (AtResolution 3)
none_at_the_last q m list ends = ends.none ends.last.factors (omega arith)

-- no lines end so, nor does a list that is cut off at a line that its budget ended
not_empty : (earlier : List Entry) (last : Entry) → [] ≡ earlier ++ last ∷ [] → ⊥
not_empty [] last e = cc e
not_empty (x ∷ earlier) last e = cc e

only_one : (earlier : List Entry) (last x : Entry) → x ∷ [] ≡ earlier ++ last ∷ [] → x ≡ last
only_one [] last x e = cc e
only_one (y ∷ earlier) last x e = absurd (not_empty earlier last (cc e))

no_line : (q m : ℕ) → EndsWithNone q m [] → ⊥
no_line q m ends = not_empty ends.earlier ends.last ends.behind

abbrev open_line : Entry
open_line = record { factors = 4; line = Budget }

cut_off : (q m : ℕ) → EndsWithNone q m (open_line ∷ []) → ⊥
cut_off q m ends =
    let same = only_one ends.earlier ends.last open_line ends.behind in
    let nothing : false ≡ true = ap (λ (e : Entry). is_nothing e.line) same ∙ ends.nothing in
    cc nothing
