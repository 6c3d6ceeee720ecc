-- What the OUTPUT statements of a step are read against.
use Rattle.std.specs.Prelude.{ℕ, ◌^◌, List}
use Rattle.fx_settings.specs.declared.settings.StepSettings.{StepSettings}
use Rattle.fx_settings.specs.declared.settings.Size.{Size}
use Rattle.fx_settings.specs.declared.settings.Size.TheVariants.{Runs, Minimum}
use Rattle.fx_settings.specs.declared.settings.Blocks.{Blocks}
use Rattle.fx_settings.specs.declared.settings.Blocks.TheVariants as given
use Rattle.fx_settings.specs.Powers.{greatest}
use Rattle.fx_outputs.specs.declared.context.BlockCount.{BlockCount}
use Rattle.fx_outputs.specs.declared.context.BlockCount.TheVariants as count
use Rattle.fx_outputs.specs.Contexts.{Context}

-- the greatest number of runs
abbrev pub most_runs : ℕ → Size → ℕ
most_runs q (Runs m) = q ^ m
most_runs q Minimum = q ^ greatest q

-- the number of blocks, where it is fixed
abbrev pub block_count : ℕ → Blocks → BlockCount
block_count q given.Without = count.Without
block_count q (given.Factors t) = count.Fixed (q ^ t)
block_count q (given.PerBlock k) = count.Open
block_count q given.Most = count.Open

-- what the OUTPUT statements of the step are read against
abbrev pub context : List (List ℕ) → StepSettings → Context
context factors settings = record {
  factors = factors;
  q = settings.q;
  runs = most_runs settings.q settings.size;
  blocks = block_count settings.q settings.blocks;
}
