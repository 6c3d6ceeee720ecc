-- Runs as the numbers of their fields.
use Rattle.std.specs.Prelude.{ℕ, ◌==◌, if◌then◌else◌, List, [], ◌∷◌, ◌++◌, map}
use Rattle.std.specs.List.{range_with_len}
use Rattle.fx_runs.specs.Runs.{RunsView}
use Rattle.fx_runs.specs.RunBlocks.{block_of, run_at}
use Rattle.fx_plan.specs.Columns.{codes_of}
use Rattle.fx_plan.specs.Tables.{block_field}

-- the codes of run k in columns, behind the number of its block, from 0, where there are blocks
abbrev pub row_codes : RunsView → List (List ℕ) → ℕ → List ℕ
row_codes runs columns k =
    (if runs.shape.t == 0 then [] else block_of runs k ∷ []) ++ codes_of runs.shape.q columns (run_at runs k)

-- the fields of n blocks
abbrev pub block_fields : List (List ℕ) → ℕ → List (List ℕ)
block_fields block_values n = map (block_field block_values) (range_with_len 0 n)
