-- Plans that were made elsewhere: their factors and runs.
use Rattle.std.specs.Prelude.{ℕ, ◌≤◌, IsTrue, List, length, min, All}
use Rattle.fx_designs.specs.Galois.{is_order}
use Rattle.fx_designs.specs.Vectors.{IsVector}
use Rattle.fx_designs.specs.Components.{components, listed_count}

-- what clauses see of a plan: each row is the levels of a run, as codes
pub record PlanView : Type 0 where
  pub q : ℕ
  pub names : List (List ℕ)
  pub rows : List (List ℕ)

-- how many components of one and two of s factors there are
abbrev pub component_total : ℕ → ℕ → ℕ
component_total q s = listed_count q s (min 2 s)

-- the components of one and two of its factors
abbrev pub plan_components : PlanView → List (List ℕ)
plan_components plan = components plan.q (length plan.names) (min 2 (length plan.names))

-- a plan within the limits
pub record IsPlan (plan : PlanView) : Type 0 where
  pub order : IsTrue (is_order plan.q)
  pub some_factors : 1 ≤ length plan.names
  pub factors : length plan.names ≤ 40
  pub some_rows : 1 ≤ length plan.rows
  pub few_rows : length plan.rows ≤ 4096
  pub each : All (λ x. IsVector plan.q (length plan.names) x) plan.rows
  pub few_components : component_total plan.q (length plan.names) ≤ 300
