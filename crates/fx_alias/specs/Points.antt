-- The section of a listing that has the runs of a design.
use Rattle.std.specs.Prelude.{ℕ, ◌+◌, ◌==◌, if◌then◌else◌, List, [], ◌∷◌, ◌++◌, length, take, codes, decimal}
use Rattle.std.specs.Prelude.{slice_index_or}
use Rattle.std.specs.List.{flat_map, range_with_len}
use Rattle.fx_runs.specs.Runs.{RunsView}
use Rattle.fx_runs.specs.RunBlocks.{block_of, run_at}
use Rattle.fx_runs.specs.Levels.{default_values}

-- a word after a blank
abbrev pub word : List ℕ → List ℕ
word text = 32 ∷ text

-- the value that a code has among these
abbrev pub level_word : List (List ℕ) → ℕ → List ℕ
level_word values c = word (slice_index_or values c [])

-- the number of a run's block, from 1, where there are blocks
abbrev pub block_word : RunsView → ℕ → List ℕ
block_word runs k = if runs.shape.t == 0 then [] else word (decimal (1 + block_of runs k))

-- the names of the columns: with blocks that of the block, and then the factors
abbrev pub columns_line : ℕ → List (List ℕ) → List ℕ
columns_line t names = (if t == 0 then codes "points" else codes "points BLOCK") ++ flat_map word names ++ codes "\n"

-- the line of run k, counted from 0: its number from 1, its block, and the default value of each factor
abbrev pub point_line : RunsView → ℕ → List ℕ
point_line runs k =
    codes "  " ++ decimal (k + 1) ++ block_word runs k
    ++ flat_map (level_word (default_values runs.shape.q)) (take runs.shape.s (run_at runs k)) ++ codes "\n"

-- the section: the names of the columns, and then a line for each run
abbrev pub design_section : List (List ℕ) → RunsView → List ℕ
design_section names runs =
    columns_line runs.shape.t names ++ flat_map (point_line runs) (range_with_len 0 (length runs.rows))
