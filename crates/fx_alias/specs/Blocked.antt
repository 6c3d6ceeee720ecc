-- The section of a listing that has the components that are confounded with blocks.
use Rattle.std.specs.Prelude.{ℕ, ◌^◌, ◌&&◌, not, Bool, false, List, ◌++◌, filter, codes}
use Rattle.std.specs.List.{flat_map}
use Rattle.fx_designs.specs.Runs.{is_constant, is_constant_in_blocks}
use Rattle.fx_runs.specs.Runs.{RunsView}
use Rattle.fx_components.specs.Products.{product}
use Rattle.fx_components.specs.Lines.{or_none}
use Rattle.fx_alias.specs.declared.marks.BlockMarks.{BlockMarks}
use Rattle.fx_alias.specs.declared.marks.BlockMarks.TheVariants.{Without, With}

-- constant inside each block, and not over all runs
abbrev pub is_blocked : RunsView → List ℕ → Bool
is_blocked runs u =
    not (is_constant runs.shape.q u runs.rows)
    && is_constant_in_blocks runs.shape.q runs.shape.s (runs.shape.q ^ runs.shape.t) u runs.rows

-- whether a component is marked in the listing of aliases: where marks are wanted, one that is confounded with blocks
abbrev pub is_marked : BlockMarks → RunsView → List ℕ → Bool
is_marked Without runs u = false
is_marked With runs u = is_blocked runs u

-- the line of a component
abbrev pub component_line : List (List ℕ) → List ℕ → List ℕ
component_line names u = codes "  " ++ product names u ++ codes "\n"

-- the section: a line for each component that is confounded with blocks, or a line that says that there is none
abbrev pub blocked_section : List (List ℕ) → RunsView → List (List ℕ) → List ℕ
blocked_section names runs components =
    codes "blocked\n" ++ or_none (flat_map (component_line names) (filter (is_blocked runs) components))
