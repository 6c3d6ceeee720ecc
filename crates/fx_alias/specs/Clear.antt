-- Clear components: those that the runs tell apart from all others of one and of two factors, and from the blocks (Wu
-- and Chen).
use Rattle.std.specs.Prelude.{ℕ, ◌^◌, ◌==◌, ◌&&◌, not, Bool, List, count_by, length, min}
use Rattle.fx_designs.specs.Components.{components}
use Rattle.fx_designs.specs.Runs.{is_constant, is_constant_in_blocks}
use Rattle.fx_designs.specs.Vectors.{weight}
use Rattle.fx_runs.specs.Runs.{RunsView}
use Rattle.fx_alias.specs.Classes.{class_of}

-- the components of one and of two factors
abbrev pub short_components : RunsView → List (List ℕ)
short_components runs = components runs.shape.q runs.shape.s (min runs.shape.s 2)

-- clear among some components, of which it is one: not constant, not constant in each block, and its class has no other
abbrev pub is_clear : RunsView → List (List ℕ) → List ℕ → Bool
is_clear runs components u =
    not (is_constant runs.shape.q u runs.rows)
    && (not (is_constant_in_blocks runs.shape.q runs.shape.s (runs.shape.q ^ runs.shape.t) u runs.rows)
    && (length (class_of runs.shape.q runs.rows components u) == 1))

-- how many components of k factors there are among these
abbrev pub count_of_weight : ℕ → List (List ℕ) → ℕ
count_of_weight k components = count_by (λ u. weight u == k) components

-- how many of those are clear
abbrev pub clear_of_weight : RunsView → ℕ → List (List ℕ) → ℕ
clear_of_weight runs k components = count_by (λ u. (weight u == k) && is_clear runs components u) components
