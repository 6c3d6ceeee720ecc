-- What is listed of a fold-over.
use Rattle.std.specs.Prelude.{ℕ, List, [], ◌++◌, codes}
use Rattle.fx_designs.specs.Vectors.{vectors_of}
use Rattle.fx_vectors.specs.Matrix.{MatrixView}
use Rattle.fx_components.specs.Products.{product}
use Rattle.fx_foldover.specs.Foldovers.{combined_pattern}
use Rattle.fx_statements.specs.declared.fold.Fold.{Fold}
use Rattle.fx_statements.specs.declared.fold.Fold.TheVariants.{Without, Factors}
use Rattle.fx_statements.specs.Steps.{Meaning}
use Rattle.fx_alias.specs.Heads.{resolution_line}
use Rattle.fx_alias.specs.Patterns.{words_lines}

-- the product of the folded factors, and the resolution and the pattern of the words that both halves together have
abbrev pub fold_text : List (List ℕ) → List ℕ → List ℕ → List ℕ
fold_text names folded words =
    codes "foldover "
    ++ (product names folded
    ++ (codes "\n  " ++ (resolution_line [] words ++ words_lines (codes "B") 1 words)))

-- the lines of the fold-over of a design, where there is one
abbrev pub fold_lines : List (List ℕ) → MatrixView → Fold → List ℕ
fold_lines names matrix Without = []
fold_lines names matrix (Factors folded) =
    fold_text names folded (combined_pattern matrix.shape.m folded (vectors_of 2 matrix.shape.m matrix.rows))

-- the same of a step
abbrev pub fold_section : Meaning → MatrixView → List ℕ
fold_section step matrix = fold_lines step.factors matrix step.fold
