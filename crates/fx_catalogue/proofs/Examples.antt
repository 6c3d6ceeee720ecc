-- How a catalogue is listed, and which lines its claims exclude.
use Rattle.std.proofs.Common.{ℕ, ◌≡◌, ◌<◌, ◌⊎◌, inl, inr, true, List, [], ◌∷◌, Option, Some, None, is_some, refl, sym}
use Rattle.std.proofs.Common.{◌∙◌, ap, arith}
use Rattle.std.specs.Prelude.{codes}
use Rattle.std.specs.Fmt.{digits}
use Rattle.std.proofs.lemmas.Bool.{both_ways}
use Rattle.std.proofs.lemmas.List.Elements.{All-from_recursion}
use Rattle.fx_designs.specs.Galois.{prime_of, degree_of, reduction_of, add, mul, neg, inv}
use Rattle.fx_designs.specs.Vectors.{IsVector}
use Rattle.fx_designs.specs.Runs.{runs_of, is_constant, is_balanced, are_blocks_even, is_balanced_in_blocks}
use Rattle.fx_designs.specs.Problems.{AtResolution}
use Rattle.fx_designs.specs.Demands.{must_balance, is_estimated}
use Rattle.fx_designs.specs.Matrices.{IsRuleMatrix, NoneMeets}
use Rattle.fx_designs.specs.Patterns.{constant_words, pattern_of}
use Rattle.fx_reduction.specs.Resolutions.{HasLeastPattern}
use Rattle.fx_vectors.specs.Matrix.{MatrixView}
use Rattle.fx_vectors.specs.Shape.{dimensions_of}
use Rattle.fx_vectors.specs.declared.shape.Shape.{Shape}
use Rattle.fx_vectors.specs.declared.book.Book.{Book}
use Rattle.fx_vectors.specs.declared.book.Head.{Head}
use Rattle.fx_catalogue.specs.declared.line.Line.TheVariants.{Least, Nothing, Budget}
use Rattle.fx_catalogue.specs.Catalogues.{Entry, book_name, entries_status, files_of, shape_at, up_to}
use Rattle.fx_catalogue.specs.Catalogues.{is_budget}
use Rattle.fx_catalogue.specs.Laws.{IsAbsent, IsLeast, head_at}
use Rattle.fx_catalogue.specs.Listing.{head_text, line_text}

abbrev with_rows : List ℕ → MatrixView
with_rows rows = record { shape = shape_at 2 3 4; rows = rows }

-- the first line, and a line of each kind
listed : (book : Book)
    → (head_text 2 3 ≡ codes "catalogue levels 2 runs 8\n")
    × (line_text 9 4 (Least (with_rows (1 ∷ 2 ∷ 4 ∷ 7 ∷ [])) (0 ∷ 0 ∷ 0 ∷ 1 ∷ []) 7 book)
    ≡ codes "factors 4 nodes 7 resolution 4 A4 1\n")
    × (line_text 9 8 (Nothing 18 book) ≡ codes "factors 8 nodes 18 none\n")
    × (line_text 6 4 Budget ≡ codes "factors 4 budget ended after 6 nodes\n")
unfolding digits
listed book = (refl, refl, refl, refl)

-- the file of a book is named by the number of factors, and there is none where the budget ended
files : (book_name 12 ≡ codes "catalogue-12.book") × (files_of 4 Budget ≡ [])
unfolding digits
files = (refl, refl)

-- a budget that ended counts more than a line without a design
statuses : (book : Book)
    → (entries_status [] ≡ 0)
    × (entries_status (record { factors = 4; line = Nothing 18 book } ∷ []) ≡ 1)
    × (entries_status (record { factors = 4; line = Budget } ∷ record { factors = 5; line = Nothing 18 book } ∷ []) ≡ 2)
statuses book = (refl, refl, refl)

-- the first that passes is the last
first_passes : (book : Book)
    → up_to (λ (e : Entry). is_budget e.line)
    (record { factors = 4; line = Budget } ∷ record { factors = 5; line = Budget } ∷ [])
    ≡ record { factors = 4; line = Budget } ∷ []
first_passes book = refl

row : (a b c : ℕ) → a < 2 → b < 2 → c < 2 → IsVector 2 3 (a ∷ b ∷ c ∷ [])
row a b c ha hb hc = record { len = refl; codes = (ha, (hb, (hc, tt))) }

abbrev half : List (List ℕ)
half = (1 ∷ 0 ∷ 0 ∷ []) ∷ (0 ∷ 1 ∷ 0 ∷ []) ∷ (0 ∷ 0 ∷ 1 ∷ []) ∷ (1 ∷ 1 ∷ 1 ∷ []) ∷ []

in_eight_runs : IsRuleMatrix (dimensions_of (shape_at 2 3 4)) half []
in_eight_runs = record {
  factor_count = refl;
  block_count = refl;
  factor_rows = All-from_recursion (IsVector 2 3) half (
    row 1 0 0 (omega arith) (omega arith) (omega arith),
    (
      row 0 1 0 (omega arith) (omega arith) (omega arith),
      (
        row 0 0 1 (omega arith) (omega arith) (omega arith),
        (row 1 1 1 (omega arith) (omega arith) (omega arith), tt),
      ),
    ),
  );
  block_rows = All-from_recursion (IsVector 2 3) [] tt;
}

-- a word of three is not least where one of four is possible
not_least : (pattern : List ℕ) (book : Book)
    → IsLeast (shape_at 2 3 4) (with_rows (1 ∷ 2 ∷ 4 ∷ 3 ∷ [])) pattern book
    → ⊥
unfolding prime_of degree_of reduction_of add mul neg inv runs_of is_constant is_balanced are_blocks_even
    is_balanced_in_blocks must_balance is_estimated constant_words pattern_of
not_least pattern book line = both_ways true (line.least half [] in_eight_runs refl) refl

-- nor is there none
not_absent : (book : Book) → IsAbsent (shape_at 2 3 4) book → ⊥
unfolding prime_of degree_of reduction_of add mul neg inv runs_of is_constant is_balanced are_blocks_even
    is_balanced_in_blocks must_balance is_estimated
not_absent book line = both_ways true (line.none half [] in_eight_runs) refl

abbrev factors_of : Head → ℕ
factors_of h = h.question.shape.s

four_or_five : ◌≡◌ {A = ℕ} 4 5 → ⊥
four_or_five e = omega (arith, e)

-- the book of a line is about its own shape, at resolution 3
other_line : (matrix : MatrixView) (pattern : List ℕ) (book : Book) (beat : Option (List ℕ))
    → book.head ≡ head_at (shape_at 2 3 5) beat
    → IsLeast (shape_at 2 3 4) matrix pattern book ⊎ IsAbsent (shape_at 2 3 4) book
    → ⊥
other_line matrix pattern book beat is (inl line) = four_or_five (ap factors_of (sym line.head_is ∙ is))
other_line matrix pattern book beat is (inr line) = four_or_five (ap factors_of (sym line.head_is ∙ is))

-- the book of a line with a design has a pattern to beat, that of a line without one has none
no_pattern : (shape : Shape) (matrix : MatrixView) (pattern : List ℕ) (book : Book)
    → book.head.beat ≡ None
    → IsLeast shape matrix pattern book
    → ⊥
no_pattern shape matrix pattern book is line =
    both_ways (is_some book.head.beat) (ap is_some is) (ap (λ (h : Head). is_some h.beat) line.head_is)

with_pattern : (shape : Shape) (pattern : List ℕ) (book : Book)
    → book.head.beat ≡ Some pattern
    → IsAbsent shape book
    → ⊥
with_pattern shape pattern book is line =
    both_ways (is_some book.head.beat) (ap (λ (h : Head). is_some h.beat) line.head_is) (ap is_some is)

-- what the lines give of any shape
least : (shape : Shape) (matrix : MatrixView) (pattern : List ℕ) (book : Book)
    → IsLeast shape matrix pattern book
    → HasLeastPattern (dimensions_of shape) (AtResolution 3) matrix.rows
least shape matrix pattern book line = line.least

absent : (shape : Shape) (book : Book) → IsAbsent shape book → NoneMeets (dimensions_of shape) (AtResolution 3)
absent shape book line = line.none
