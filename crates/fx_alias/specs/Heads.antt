-- The head of a step's listing.
use Rattle.std.specs.Prelude.{ℕ, ◌^◌, ◌==◌, nat_lt, not, ◌&&◌, Bool, if◌then◌else◌, List, [], ◌++◌, length, Option}
use Rattle.std.specs.Prelude.{Some}
use Rattle.std.specs.Prelude.{None, codes, decimal}
use Rattle.fx_designs.specs.Problems.{Dimensions}
use Rattle.fx_designs.specs.Patterns.{pattern_of, resolution_of}
use Rattle.fx_designs.specs.Outcomes.{Ending, Design, NoDesign, BudgetEnded}
use Rattle.fx_vectors.specs.Shape.{dimensions_of}
use Rattle.fx_vectors.specs.Matrix.{MatrixView}
use Rattle.fx_settings.specs.declared.settings.Size.{Size}
use Rattle.fx_settings.specs.declared.settings.Size.TheVariants.{Runs, Minimum}
use Rattle.fx_settings.specs.declared.settings.StepSettings.{StepSettings}
use Rattle.fx_settings.specs.Models.{is_highest}
use Rattle.fx_settings.specs.Powers.{greatest}
use Rattle.fx_settings.specs.Valid.{has_blocks}
use Rattle.fx_statements.specs.Questions.{Conclusion}
use Rattle.fx_statements.specs.Steps.{Meaning}

-- the number of the step, its factors and their levels
abbrev pub heading : ℕ → ℕ → ℕ → List ℕ
heading number s q =
    codes "step " ++ decimal number ++ codes "\nfactors " ++ decimal s ++ codes " levels " ++ decimal q ++ codes "\n"

-- a number of runs
abbrev pub runs_words : ℕ → List ℕ
runs_words runs = decimal runs ++ codes " runs"

-- the number of blocks after this word, where there are blocks
abbrev pub blocks_words : List ℕ → Dimensions → List ℕ
blocks_words word d = if d.t == 0 then [] else word ++ (decimal (d.q ^ d.t) ++ codes " blocks")

-- the runs and the blocks of a design, with a caveat where there is one
abbrev pub design_line : List ℕ → Dimensions → List ℕ
design_line caveat d =
    codes "design " ++ (runs_words (d.q ^ d.m) ++ (blocks_words (codes " in ") d ++ (caveat ++ codes "\n")))

-- that there is no design with so many runs and blocks; or, where the fewest runs were looked for, with any number of
-- runs
abbrev pub no_design_line : Size → Dimensions → List ℕ
no_design_line (Runs m) d =
    codes "no design in " ++ (runs_words (d.q ^ d.m) ++ (blocks_words (codes " with ") d ++ codes "\n"))
no_design_line Minimum d = codes "no design in at most " ++ (runs_words (d.q ^ greatest d.q) ++ codes "\n")

-- that the budget ended
abbrev pub budget_line : ℕ → List ℕ
budget_line budget = codes "budget ended after " ++ (decimal budget ++ codes " nodes\n")

-- the resolution of a design with this pattern, and what is claimed of it; or that there are no words at all
abbrev pub resolution_line : List ℕ → List ℕ → List ℕ
resolution_line claim a =
    (if nat_lt (length a) (resolution_of a)
    then codes "no defining words\n"
    else codes "resolution " ++ (decimal (resolution_of a) ++ (claim ++ codes "\n")))

-- the number of nodes
abbrev pub nodes_line : ℕ → List ℕ
nodes_line count = codes "nodes " ++ (decimal count ++ codes "\n")

-- that a resolution is the highest, where that is what is wanted; in blocks a line of its own claims it
abbrev pub highest_claim : StepSettings → List ℕ
highest_claim settings =
    if is_highest settings.criterion && not (has_blocks settings.blocks) then codes " highest" else []

-- what is claimed of the resolution of a step's design: that the pattern is the least, or that it is the highest
abbrev pub resolution_claim : Meaning → List ℕ
resolution_claim step =
    if step.settings.least then codes " least aberration" else highest_claim step.settings

-- whether the highest resolution is wanted in blocks
abbrev pub seeks_in_blocks : StepSettings → Bool
seeks_in_blocks settings = is_highest settings.criterion && has_blocks settings.blocks

-- the resolution that a design meets with its blocks, and what is claimed of it
abbrev pub clear_to : List ℕ → ℕ → List ℕ
clear_to claim r = codes "blocks clear to resolution " ++ (decimal r ++ (claim ++ codes "\n"))

-- this line, where the highest resolution is wanted in blocks
abbrev pub clear_line : Meaning → List ℕ → ℕ → List ℕ
clear_line step claim r = if seeks_in_blocks step.settings then clear_to claim r else []

-- a design, its resolution, with a caveat on the one and a claim on the other, and what its blocks are clear to
abbrev pub design_lines : List ℕ → List ℕ → List ℕ → Dimensions → List ℕ → List ℕ
design_lines caveat claim clear d rows = design_line caveat d ++ (resolution_line claim (pattern_of d rows) ++ clear)

-- those lines for a matrix, where there is one
abbrev pub matrix_lines : List ℕ → List ℕ → List ℕ → Option MatrixView → List ℕ
matrix_lines caveat claim clear None = []
matrix_lines caveat claim clear (Some matrix) =
    design_lines caveat claim clear (dimensions_of matrix.shape) matrix.rows

-- how the search of the step ended, with its design, if any; and the number of nodes of a finished search
abbrev pub outcome_lines : Meaning → Dimensions → ℕ → Ending → List ℕ
outcome_lines step d reached (Design rows count) =
    design_lines [] (resolution_claim step) (clear_line step (codes " highest") reached) d rows ++ nodes_line count
outcome_lines step d reached (NoDesign count) = no_design_line step.settings.size d ++ nodes_line count
outcome_lines step d reached (BudgetEnded None budget) = budget_line budget
outcome_lines step d reached (BudgetEnded (Some rows) budget) =
    budget_line budget ++ design_lines (codes " not proved best") [] (clear_line step [] reached) d rows

-- the head of the step of this number
abbrev pub head_lines : ℕ → Meaning → Conclusion → List ℕ
head_lines number step outcome =
    heading number (length step.factors) outcome.dimensions.q
    ++ outcome_lines step outcome.dimensions outcome.reached outcome.ending
