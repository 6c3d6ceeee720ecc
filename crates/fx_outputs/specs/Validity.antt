-- What holds of every output that is accepted, without a word on how it is read.
use Rattle.std.specs.Prelude.{◌≡◌, ◌≢◌, ◌*◌, ◌≤◌, ℕ, true, false, List, [], None, length, All}
use Rattle.std.specs.List.{AllPairs}
use Rattle.fx_outputs.specs.declared.replication.TheConstants.{MOST_ROWS}
use Rattle.fx_text.specs.Names.{IsName, place_of}
use Rattle.fx_outputs.specs.declared.output.OutputSpec.{OutputSpec}
use Rattle.fx_outputs.specs.declared.recode.Recode.{Recode}
use Rattle.fx_outputs.specs.declared.replication.Rep.{Rep}
use Rattle.fx_outputs.specs.declared.replication.Rep.TheVariants.{Times}
use Rattle.fx_outputs.specs.DerivedFactors.{AreDerived, AreFree}
use Rattle.fx_outputs.specs.Contexts.{Context}
use Rattle.fx_outputs.specs.BlockColumns.{column_name, has_blocks}
use Rattle.fx_outputs.specs.declared.context.BlockCount.TheVariants as blocks

-- a factor of the step, with a value for each level
pub record IsRecode (context : Context) (recode : Recode) : Type 0 where
  pub from_1 : 1 ≤ recode.place
  pub a_factor : recode.place ≤ length context.factors
  pub each_level : length recode.values ≡ context.q

-- recoded factors, each once
pub record AreRecodes (context : Context) (recodes : List Recode) : Type 0 where
  pub each : All (IsRecode context) recodes
  pub once : AllPairs (λ (a b : Recode). a.place ≢ b.place) recodes

-- at least once, where no plan is named
pub record IsRep (rep : Rep) : Type 0 where
  pub some : (n : ℕ) → rep ≡ Times n → 1 ≤ n

-- an output that keeps the limits of its step; values of the block column are as many as there are blocks
pub record IsWithinLimits (context : Context) (output : OutputSpec) : Type 0 where
  pub pointrep : IsRep output.pointrep
  pub designrep : IsRep output.designrep
  pub rows :
      (each all : ℕ) → output.pointrep ≡ Times each → output.designrep ≡ Times all
      → context.runs * each * all ≤ MOST_ROWS
  pub recodes : AreRecodes context output.recodes
  pub derived : AreDerived context.q (length context.factors) output.derived
  pub free : AreFree output.derived output.recodes
  pub block_values : output.block_values ≢ [] → context.blocks ≡ blocks.Fixed (length output.block_values)

-- an output whose names have 1 to 32 bytes; with blocks no factor has the name of their column, and without blocks
-- there is none
pub record HasItsNames (context : Context) (output : OutputSpec) : Type 0 where
  pub name : IsName output.name
  pub block_name : output.block_name ≢ [] → IsName output.block_name
  pub column : has_blocks context.blocks ≡ true → place_of (column_name output.block_name) context.factors ≡ None
  pub no_column : has_blocks context.blocks ≡ false → output.block_name ≡ []
