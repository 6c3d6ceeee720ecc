-- The head of the listing of a step whose design is given.
use Rattle.std.specs.Prelude.{ℕ, ◌+◌, ◌==◌, Bool, true, false, if◌then◌else◌, List, [], ◌∷◌, ◌++◌, length, Option, Some}
use Rattle.std.specs.Prelude.{None, codes, decimal}
use Rattle.fx_designs.specs.Patterns.{pattern_of}
use Rattle.fx_runs.specs.Runs.{RunsView, design_of}
use Rattle.fx_vectors.specs.Shape.{dimensions_of}
use Rattle.fx_vectors.specs.Matrix.{MatrixView}
use Rattle.fx_statements.specs.Steps.{Meaning}
use Rattle.fx_alias.specs.BlockWords.{block_words_of}
use Rattle.fx_alias.specs.Clear.{clear_of_weight, count_of_weight, short_components}
use Rattle.fx_alias.specs.Heads.{design_line, heading, resolution_line}

-- whether the design meets the model, where that is known
abbrev pub met_line : Option Bool → List ℕ
met_line None = []
met_line (Some true) = codes "meets the model\n"
met_line (Some false) = codes "does not meet the model\n"

-- what the components of two factors are called; each pair of factors of two levels has one
abbrev pub pairs_name : ℕ → List ℕ
pairs_name q = if q == 2 then codes "two-factor interactions" else codes "two-factor components"

-- how many of the factors, and of the components of two factors, are clear
abbrev pub clear_line : RunsView → List ℕ
clear_line runs =
    codes "clear "
    ++ (decimal (clear_of_weight runs 1 (short_components runs))
    ++ (codes " of " ++ (decimal runs.shape.s ++ (codes " factors, "
    ++ (decimal (clear_of_weight runs 2 (short_components runs))
    ++ (codes " of " ++ (decimal (count_of_weight 2 (short_components runs))
    ++ (codes " " ++ (pairs_name runs.shape.q ++ codes "\n")))))))))

-- `B2 3` for each weight from k on that has words, a blank before each
abbrev pub block_words_text : ℕ → List ℕ → List ℕ
block_words_text k [] = []
block_words_text k (x ∷ b) =
    (if x == 0 then block_words_text (k + 1) b
    else codes " B" ++ (decimal k ++ (codes " " ++ (decimal x ++ block_words_text (k + 1) b))))

-- these words, or the word for none
abbrev pub or_no_words : List ℕ → List ℕ
or_no_words [] = codes " none"
or_no_words (b ∷ words) = b ∷ words

-- where there are blocks, how many words of each weight are confounded with them
abbrev pub confounded_line : ℕ → List ℕ → List ℕ
confounded_line t b =
    if t == 0 then [] else codes "confounded with blocks" ++ (or_no_words (block_words_text 1 b) ++ codes "\n")

-- the head of the step of this number with this design: the step's number, the runs and blocks, the resolution, whether
-- the model is met, what is clear, and what is confounded with blocks
unfoldable pub given_head : ℕ → Meaning → MatrixView → Option Bool → List ℕ
given_head number step matrix met =
    heading number (length step.factors) matrix.shape.q
    ++ (design_line (codes " given") (dimensions_of matrix.shape)
    ++ (resolution_line [] (pattern_of (dimensions_of matrix.shape) matrix.rows)
    ++ (met_line met
    ++ (clear_line (design_of matrix)
    ++ confounded_line matrix.shape.t (block_words_of matrix)))))
