-- The section of a listing for aliased components.
use Rattle.std.specs.Prelude.{ℕ, Bool, true, false, if◌then◌else◌, List, [], ◌∷◌, ◌++◌, codes, min}
use Rattle.std.specs.List.{flat_map}
use Rattle.fx_designs.specs.Components.{components}
use Rattle.fx_designs.specs.Problems.{Requirement}
use Rattle.fx_runs.specs.Runs.{RunsView}
use Rattle.fx_statements.specs.Components.{listed_factors}
use Rattle.fx_alias.specs.declared.marks.BlockMarks.{BlockMarks}
use Rattle.fx_alias.specs.Blocked.{is_marked}
use Rattle.fx_alias.specs.Classes.{classes, constants}
use Rattle.fx_components.specs.Products.{product}

-- the components of s factors that the sections of a step list, by what it requires
abbrev pub listed_components : ℕ → ℕ → Requirement → List (List ℕ)
listed_components q s requirement = components q s (min s (listed_factors requirement))

-- the products of some components, ` = ` before each but the first
abbrev pub equated_products : List (List ℕ) → Bool → List (List ℕ) → List ℕ
equated_products names is_first [] = []
equated_products names is_first (u ∷ us) =
    (if is_first then [] else codes " = ") ++ (product names u ++ equated_products names false us)

-- the line of a class, which ends with ` = blocks` where its first component is marked
abbrev pub class_line : (List ℕ → Bool) → List (List ℕ) → List (List ℕ) → List ℕ
class_line is_marked names [] = []
class_line is_marked names (u ∷ us) =
    codes "  "
    ++ (equated_products names true (u ∷ us) ++ ((if is_marked u then codes " = blocks" else []) ++ codes "\n"))

-- the line of the components that are constant, where there are any
abbrev pub mean_line : List (List ℕ) → List (List ℕ) → List ℕ
mean_line names [] = []
mean_line names (u ∷ us) = codes "  mean = " ++ (equated_products names true (u ∷ us) ++ codes "\n")

-- The section: the line of the constant components, and then a line for each class. With marks a class that is
-- confounded with blocks says so; all of a class are, or none, so its first component decides.
abbrev pub alias_section : BlockMarks → List (List ℕ) → RunsView → List (List ℕ) → List ℕ
alias_section marks names runs components =
    codes "aliasing\n"
    ++ (mean_line names (constants runs.shape.q runs.rows components)
    ++ flat_map (class_line (is_marked marks runs) names) (classes runs.shape.q runs.rows components))
