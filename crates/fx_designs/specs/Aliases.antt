-- Vectors that the runs of a design do not tell apart: alias sets (Wu and Hamada), judged from the runs. A vector is
-- confounded with blocks where it is constant inside each block, as `is_constant_in_blocks` has it.
use Rattle.std.specs.Prelude.{ℕ, ◌-◌, Bool, List}
use Rattle.std.specs.List.{list_any, range_with_len}
use Rattle.fx_designs.specs.Vectors.{scale, minus}
use Rattle.fx_designs.specs.Runs.{is_constant}

-- u and v are aliased: for some nonzero code c, u - c v has one value on all runs
unfoldable pub is_aliased : ℕ → List (List ℕ) → List ℕ → List ℕ → Bool
is_aliased q runs u v = list_any (λ c. is_constant q (minus q u (scale q c v)) runs) (range_with_len 1 (q - 1))
