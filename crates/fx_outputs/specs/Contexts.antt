-- What OUTPUT statements are read against.
use Rattle.std.specs.Prelude.{ℕ, List}
use Rattle.fx_outputs.specs.declared.context.BlockCount.{BlockCount}

-- the names of the step's factors, the number of their levels, how many runs the design has at most, and its blocks
pub record Context : Type 0 where
  pub factors : List (List ℕ)
  pub q : ℕ
  pub runs : ℕ
  pub blocks : BlockCount
