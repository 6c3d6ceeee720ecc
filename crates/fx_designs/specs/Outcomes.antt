-- How the search for a design ends within a budget of nodes.
use Rattle.std.specs.Prelude.{ℕ, List, Option}

-- with a design, by its rows, after so many nodes; without one, after so many; or with more nodes than the budget, and
-- the matrix, by its rows, that is left then
pub data Ending : Type 0 where
  Design : List ℕ → ℕ → Ending
  NoDesign : ℕ → Ending
  BudgetEnded : Option (List ℕ) → ℕ → Ending
