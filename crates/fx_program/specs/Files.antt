-- The files of a step, and the lines of its listing that name them.
use Rattle.std.specs.Prelude.{ℕ, ◌*◌, ◌^◌, if◌then◌else◌, List, [], ◌∷◌, ◌++◌, length, map, Option, Some, None}
use Rattle.std.specs.Prelude.{codes, decimal}
use Rattle.std.specs.List.{flat_map}
use Rattle.std.specs.Str.{str_to_ascii_lowercase}
use Rattle.fx_base.specs.Acts.{Event, Piece, WholeFile}
use Rattle.fx_designs.specs.Problems.{Dimensions}
use Rattle.fx_designs.specs.Outcomes.{Ending, Design, NoDesign, BudgetEnded}
use Rattle.fx_derived.specs.Codes.{are_levels_balanced}
use Rattle.fx_outputs.specs.declared.derived.Derived.{Derived}
use Rattle.fx_outputs.specs.declared.output.OutputSpec.{OutputSpec}
use Rattle.fx_outputs.specs.declared.shuffle.Shuffle.{Shuffle}
use Rattle.fx_outputs.specs.declared.shuffle.Shuffle.TheVariants.{Kept, Default, Seed}
use Rattle.fx_vectors.specs.Matrix.{MatrixView}
use Rattle.fx_vectors.specs.declared.book.NamedBook.{NamedBook}
use Rattle.fx_book.specs.Writing.{book_text}
use Rattle.fx_designs.specs.Runs.{runs_of}
use Rattle.fx_designs.specs.Vectors.{vectors_of}
use Rattle.fx_runs.specs.Runs.{RunsView, design_of}
use Rattle.fx_foldover.specs.Foldovers.{combined_plan}
use Rattle.fx_statements.specs.declared.fold.Fold.{Fold}
use Rattle.fx_statements.specs.declared.fold.Fold.TheVariants.{Without, Factors}
use Rattle.fx_statements.specs.Steps.{Meaning}
use Rattle.fx_alias.specs.Sections.{matrix_of}
use Rattle.fx_derived.specs.Tables.{TableView}
use Rattle.fx_outputs.specs.Histories.{added}
use Rattle.fx_plan.specs.Products.{plain_plan}
use Rattle.fx_plan.specs.Tables.{text_of_table}
use Rattle.fx_program.specs.Plans.{AskedView, asked_by, plan_after}

-- the name of the file of the book of a question, in the step of this number
abbrev pub book_name : ℕ → ℕ → List ℕ
book_name number question = codes "step" ++ (decimal number ++ (codes "-" ++ (decimal question ++ codes ".book")))

-- the file of a book
abbrev pub book_file : ℕ → NamedBook → Event
book_file number named = WholeFile (book_name number named.question) (book_text named.book)

-- the files of the books of a step, in the order of their questions
abbrev pub book_files : ℕ → List NamedBook → List Event
book_files number books = map (book_file number) books

-- the line of a book
abbrev pub book_line : ℕ → NamedBook → List ℕ
book_line number named = codes "book " ++ (book_name number named.question ++ codes "\n")

-- the lines of the books of a step
abbrev pub book_lines : ℕ → List NamedBook → List ℕ
book_lines number books = flat_map (book_line number) books

-- the name of a plan's file: the OUT name in lowercase, and the ending of its format
abbrev pub file_name : List ℕ → List ℕ
file_name name = str_to_ascii_lowercase name ++ codes ".csv"

-- the file of a plan with this OUT name, if it is written
abbrev pub file_of : List ℕ → Option TableView → List Event
file_of name None = []
file_of name (Some table) = WholeFile (file_name name) (text_of_table table) ∷ []

-- the file of an OUTPUT statement, after the earlier ones
abbrev pub plan_file : ℕ → List AskedView → AskedView → List Event
plan_file seed earlier asked = file_of asked.output.name (plan_after seed earlier asked)

-- the files of some OUTPUT statements in order, after the earlier ones
abbrev pub plan_files : ℕ → List AskedView → List AskedView → List Event
plan_files seed earlier asked = added (plan_file seed) earlier asked

-- the name of the file of the fold-over of the step of this number
abbrev pub fold_name : ℕ → List ℕ
fold_name number = codes "step" ++ (decimal number ++ codes "-fold.csv")

-- the runs of a design of two levels, and after them the same runs with the levels of the folded factors exchanged
abbrev pub fold_runs : MatrixView → List ℕ → RunsView
fold_runs matrix folded = record {
  shape = matrix.shape;
  rows = combined_plan folded (runs_of 2 matrix.shape.m (vectors_of 2 matrix.shape.m matrix.rows));
}

-- the file of the fold-over of a design, where the step asks for one; none without a matrix
abbrev pub fold_file : ℕ → List (List ℕ) → Fold → Option MatrixView → List Event
fold_file number factors Without matrix = []
fold_file number factors (Factors folded) None = []
fold_file number factors (Factors folded) (Some matrix) =
    WholeFile (fold_name number) (plain_plan factors (fold_runs matrix folded)) ∷ []

-- the line of that file
abbrev pub fold_line : ℕ → Fold → Option MatrixView → List ℕ
fold_line number Without matrix = []
fold_line number (Factors folded) None = []
fold_line number (Factors folded) (Some matrix) =
    codes "output "
    ++ (fold_name number ++ (codes " " ++ (decimal (2 * matrix.shape.q ^ matrix.shape.m) ++ codes " rows\n")))

-- the files of the designs of a step after the earlier OUTPUT statements: its plans, and then its fold-over
abbrev pub design_files : ℕ → ℕ → List AskedView → Meaning → Option MatrixView → List Event
design_files seed number earlier step matrix =
    plan_files seed earlier (asked_by step matrix) ++ fold_file number step.factors step.fold matrix

-- the names of the files among events
abbrev pub names_among : List Event → List (List ℕ)
names_among [] = []
names_among (Piece bytes ∷ events) = names_among events
names_among (WholeFile name content ∷ events) = name ∷ names_among events

-- the seed by which a plan is shuffled
abbrev pub seed_note : ℕ → Shuffle → List ℕ
seed_note seed Kept = []
seed_note seed (Default values) = codes " seed " ++ decimal seed
seed_note seed (Seed own values) = codes " seed " ++ decimal own

-- the line of a plan: its file, how many rows it has, and its seed
abbrev pub output_line : ℕ → ℕ → OutputSpec → List ℕ
output_line seed rows output =
    codes "output "
    ++ (file_name output.name
    ++ (codes " " ++ (decimal rows ++ (codes " rows" ++ (seed_note seed output.shuffle ++ codes "\n")))))

-- the line of a derived factor: how many levels it has, and whether they are balanced over the runs of the design
abbrev pub derived_line : MatrixView → Derived → List ℕ
derived_line matrix factor =
    codes "derived " ++ (factor.name ++ (codes " " ++ (decimal (matrix.shape.q ^ length factor.places)
    ++ (codes " levels "
    ++ ((if are_levels_balanced matrix.shape.q factor.places (design_of matrix).rows
    then codes "balanced" else codes "not balanced") ++ codes "\n")))))

-- the lines of derived factors of a design; none without a matrix
abbrev pub derived_lines : Option MatrixView → List Derived → List ℕ
derived_lines None derived = []
derived_lines (Some matrix) derived = flat_map (derived_line matrix) derived

-- the lines of a plan, if it is written: its own, and those of its derived factors
abbrev pub plan_lines : ℕ → AskedView → Option TableView → List ℕ
plan_lines seed asked None = []
plan_lines seed asked (Some table) =
    output_line seed (length table.rows) asked.output ++ derived_lines asked.matrix asked.output.derived

-- the lines of some OUTPUT statements in order, after the earlier ones
abbrev pub output_lines : ℕ → List AskedView → List AskedView → List ℕ
output_lines seed earlier asked =
    added (λ before one. plan_lines seed one (plan_after seed before one)) earlier asked

-- the lines of the files of the designs of a step, after the earlier OUTPUT statements
abbrev pub design_lines : ℕ → ℕ → List AskedView → Meaning → Option MatrixView → List ℕ
design_lines seed number earlier step matrix =
    output_lines seed earlier (asked_by step matrix) ++ fold_line number step.fold matrix

-- the rule matrix that comes with an ending in these dimensions
abbrev pub matrix_in : Dimensions → Ending → Option MatrixView
matrix_in d (Design rows count) = Some (matrix_of d rows)
matrix_in d (NoDesign count) = None
matrix_in d (BudgetEnded None budget) = None
matrix_in d (BudgetEnded (Some rows) budget) = Some (matrix_of d rows)
