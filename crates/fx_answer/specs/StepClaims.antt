-- What is claimed of the outcome of a step, over all rule matrices, canonical or not.
use Rattle.std.specs.Prelude.{ℕ, ◌≡◌, ◌<◌, ◌≤◌, ◌+◌, true, false, List, ◌∷◌, ◌++◌, length, All, Option, Some, None}
use Rattle.fx_designs.specs.Problems.{Dimensions, Problem, AtResolution}
use Rattle.fx_designs.specs.Answers.{is_design}
use Rattle.fx_designs.specs.Demands.{is_met}
use Rattle.fx_designs.specs.Outcomes.{Ending, Design, NoDesign, BudgetEnded}
use Rattle.fx_designs.specs.Matrices.{NoneMeets}
use Rattle.fx_reduction.specs.BlockedResolutions.{IsHighestInBlocks}
use Rattle.fx_reduction.specs.Resolutions.{HasLeastPattern, HighestOfAll}
use Rattle.fx_settings.specs.declared.settings.Size.TheVariants.{Minimum}
use Rattle.fx_settings.specs.declared.settings.Blocks.TheVariants.{Most}
use Rattle.fx_settings.specs.declared.settings.Criterion.TheVariants.{Highest}
use Rattle.fx_settings.specs.Powers.{greatest}
use Rattle.fx_settings.specs.Valid.{has_blocks}
use Rattle.fx_statements.specs.Questions.{Conclusion, block_factors, least_exponent, outcome_of, run_factors}
use Rattle.fx_statements.specs.Steps.{Meaning}

-- Dimensions that a step allows: its levels and factors; its runs, for the least size any number from the least that
-- makes more than one run, and in blocks of q^k runs more than one block, to the greatest; its block factors, for the
-- most blocks any number from 1.
pub record Allows (step : Meaning) (d : Dimensions) : Type 0 where
  pub levels : d.q ≡ step.settings.q
  pub factors : d.s ≡ length step.factors
  pub runs : d.m ≡ run_factors step.settings.size d.m
  pub sizes : step.settings.size ≡ Minimum → (least_exponent step.settings.blocks ≤ d.m) × (d.m ≤ greatest d.q)
  pub blocks : d.t ≡ block_factors step.settings.blocks d.m d.t
  pub some_blocks : step.settings.blocks ≡ Most → 1 ≤ d.t

-- a whole matrix, in dimensions that the step allows, whose runs meet what is required
pub record IsAsItAsks (step : Meaning) (d : Dimensions) (rows : List ℕ) : Type 0 where
  pub allowed : Allows step d
  pub whole : length rows ≡ d.s + d.t
  pub met : is_met d step.requirement rows ≡ true

-- the rows of the matrix that comes with an ending: of its design, or of what is left where the budget ended
abbrev pub rows_in : Ending → Option (List ℕ)
rows_in (Design rows count) = Some rows
rows_in (NoDesign count) = None
rows_in (BudgetEnded left budget) = left

-- each matrix is as the step asks, also one that is left where the budget ended
abbrev pub HasWhatItAsks : Meaning → Conclusion → Type 0
HasWhatItAsks step outcome = (rows : List ℕ)
    → rows_in outcome.ending ≡ Some rows
    → IsAsItAsks step outcome.dimensions rows

-- where the budget ended in the search for the least size, none is left
abbrev pub LeavesNoneOfLeastSize : Meaning → Conclusion → Type 0
LeavesNoneOfLeastSize step outcome = (left : Option (List ℕ)) (budget : ℕ)
    → step.settings.size ≡ Minimum
    → outcome.ending ≡ BudgetEnded left budget
    → left ≡ None

-- without a design the runs of no rule matrix at all meet what is required, in no dimensions that the step allows
abbrev pub HasNoneAtAll : Meaning → Conclusion → Type 0
HasNoneAtAll step outcome = (count : ℕ) (d : Dimensions)
    → outcome.ending ≡ NoDesign count
    → Allows step d
    → NoneMeets d step.requirement

-- where least aberration is asked, the pattern of no rule matrix that meets what is required is less than the design's
abbrev pub HasLeastOfAll : Meaning → Conclusion → Type 0
HasLeastOfAll step outcome = (rows : List ℕ) (count : ℕ)
    → step.settings.least ≡ true
    → outcome.ending ≡ Design rows count
    → HasLeastPattern outcome.dimensions step.requirement rows

-- where the highest resolution is asked, without blocks, no rule matrix has a higher one than the design
abbrev pub HasHighestOfAll : Meaning → Conclusion → Type 0
HasHighestOfAll step outcome = (rows : List ℕ) (count : ℕ)
    → step.settings.criterion ≡ Highest
    → has_blocks step.settings.blocks ≡ false
    → outcome.ending ≡ Design rows count
    → HighestOfAll outcome.dimensions rows

-- where it is asked in blocks, each matrix meets the resolution that was reached with its blocks, also one that is left
-- where the budget ended
abbrev pub MeetsWhatItReached : Meaning → Conclusion → Type 0
MeetsWhatItReached step outcome = (rows : List ℕ)
    → step.settings.criterion ≡ Highest
    → has_blocks step.settings.blocks ≡ true
    → rows_in outcome.ending ≡ Some rows
    → (3 ≤ outcome.reached) × (is_met outcome.dimensions (AtResolution outcome.reached) rows ≡ true)

-- and no rule matrix with as many block factors meets a higher one than the design
abbrev pub HasHighestInBlocks : Meaning → Conclusion → Type 0
HasHighestInBlocks step outcome = (rows : List ℕ) (count : ℕ)
    → step.settings.criterion ≡ Highest
    → has_blocks step.settings.blocks ≡ true
    → outcome.ending ≡ Design rows count
    → IsHighestInBlocks outcome.dimensions rows outcome.reached

-- in fewer runs than the design's no rule matrix meets what is required, where the step allows them: with the least
-- size, that is
abbrev pub HasLeastSize : Meaning → Conclusion → Type 0
HasLeastSize step outcome = (rows : List ℕ) (count : ℕ) (d : Dimensions)
    → outcome.ending ≡ Design rows count
    → Allows step d
    → d.m < outcome.dimensions.m
    → NoneMeets d step.requirement

-- where the most blocks are asked, no rule matrix with more block factors than the design's meets what is required
abbrev pub HasMostBlocks : Meaning → Conclusion → Type 0
HasMostBlocks step outcome = (rows : List ℕ) (count : ℕ) (d : Dimensions)
    → step.settings.blocks ≡ Most
    → outcome.ending ≡ Design rows count
    → Allows step d
    → outcome.dimensions.t < d.t
    → NoneMeets d step.requirement

-- all of these
pub record ClaimsHold (step : Meaning) (outcome : Conclusion) : Type 0 where
  pub as_asked : HasWhatItAsks step outcome
  pub none_left : LeavesNoneOfLeastSize step outcome
  pub none_at_all : HasNoneAtAll step outcome
  pub least_pattern : HasLeastOfAll step outcome
  pub highest_resolution : HasHighestOfAll step outcome
  pub reached : MeetsWhatItReached step outcome
  pub highest_in_blocks : HasHighestInBlocks step outcome
  pub least_size : HasLeastSize step outcome
  pub most_blocks : HasMostBlocks step outcome

-- a claim on the outcome of a step
abbrev pub OfOutcome : (Meaning → Conclusion → Type 0) → Meaning → Type 0
OfOutcome Claimed step = Claimed step (outcome_of step)

-- a problem without a canonical matrix that meets its requirement
abbrev pub HasNoDesign : Problem → Type 0
HasNoDesign p = (rows : List ℕ) → is_design p rows ≡ false

-- of some questions this one is the last that has a design, if it has one
pub record IsLastWithDesign (ps : List Problem) (p : Problem) : Type 0 where
  pub earlier : List Problem
  pub later : List Problem
  pub among : ps ≡ earlier ++ p ∷ later
  pub none_later : All HasNoDesign later
