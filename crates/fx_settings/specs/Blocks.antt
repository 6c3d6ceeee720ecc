-- Into how many blocks the runs of a step are divided.
use Rattle.std.specs.Prelude.{ℕ, ◌-◌, ◌^◌, nat_lt, not, Bool, false, Option, Some, None, is_some, option_map}
use Rattle.fx_settings.specs.declared.power.TheConstants.{MOST_RUNS}
use Rattle.fx_settings.specs.declared.said.BlocksSaid.{BlocksSaid}
use Rattle.fx_settings.specs.declared.said.BlocksWord.{BlocksWord}
use Rattle.fx_settings.specs.declared.said.BlocksWord.TheVariants as word
use Rattle.fx_settings.specs.declared.settings.Size.{Size}
use Rattle.fx_settings.specs.declared.settings.Size.TheVariants.{Runs, Minimum}
use Rattle.fx_settings.specs.declared.settings.Blocks.{Blocks}
use Rattle.fx_settings.specs.declared.settings.Blocks.TheVariants as blocks
use Rattle.fx_settings.specs.Powers.{exponent_or, greatest}

-- as many blocks as can be are wanted
abbrev pub are_most : Option BlocksSaid → Bool
are_most None = false
are_most (Some said) = not (is_some said.value.number)

-- the most run factors that the size may have
abbrev pub most_run_factors : ℕ → Size → ℕ
most_run_factors q (Runs m) = m
most_run_factors q Minimum = greatest q

-- The number of block factors of m run factors by the number n after this word, 0 where there is none. NBLKFACS: t = n.
-- NBLOCKS: n = q^t. SIZE: n = q^k, k below m, and t = m - k.
abbrev pub block_factors_by_word : ℕ → ℕ → BlocksWord → ℕ → ℕ
block_factors_by_word q m word.Nblkfacs n = n
block_factors_by_word q m word.Nblocks n = exponent_or 0 q n
block_factors_by_word q m word.Size n = m - exponent_or m q n

-- the same of a BLOCKS statement, which may ask for the most
abbrev pub block_factors_of : ℕ → Size → Option BlocksSaid → Option ℕ
block_factors_of q size None = None
block_factors_of q size (Some said) =
    option_map (block_factors_by_word q (most_run_factors q size) said.word) said.value.number

-- more blocks than runs, or than the most runs where the size is the least
abbrev pub is_too_many : ℕ → Size → ℕ → Bool
is_too_many q (Runs m) t = nat_lt m t
is_too_many q Minimum t = nat_lt MOST_RUNS (q ^ t)

-- the same of a number that need not be given
abbrev pub are_too_many_blocks : ℕ → Size → Option ℕ → Bool
are_too_many_blocks q size None = false
are_too_many_blocks q size (Some t) = is_too_many q size t

-- t block factors; of the least size only the number of runs in a block is known where SIZE gives it
abbrev pub blocks_by : ℕ → Size → BlocksWord → ℕ → Blocks
blocks_by q Minimum word.Size t = blocks.PerBlock (greatest q - t)
blocks_by q size w t = blocks.Factors t

-- the blocks of a step with t block factors, where their number is given
abbrev pub blocks_of : ℕ → Size → Option BlocksSaid → Option ℕ → Blocks
blocks_of q size None t = blocks.Without
blocks_of q size (Some said) None = blocks.Most
blocks_of q size (Some said) (Some t) = blocks_by q size said.word t
