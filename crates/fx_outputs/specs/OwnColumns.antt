-- The columns of a file that are of no other plan.
use Rattle.std.specs.Prelude.{ℕ, ◌+◌, if◌then◌else◌, List, [], ◌∷◌, ◌++◌, map}
use Rattle.fx_outputs.specs.declared.derived.Derived.{Derived}
use Rattle.fx_outputs.specs.Contexts.{Context}
use Rattle.fx_outputs.specs.BlockColumns.{column_name, has_blocks}
use Rattle.fx_outputs.specs.DerivedFactors.{is_bracketed}

-- the names of factors that stand in no brackets; the first has this place
abbrev pub free_names : List Derived → ℕ → List (List ℕ) → List (List ℕ)
free_names derived place [] = []
free_names derived place (name ∷ names) =
    if is_bracketed derived place then free_names derived (place + 1) names
    else name ∷ free_names derived (place + 1) names

-- with blocks their column, which has this name, and the factors that stand in no brackets
abbrev pub other_columns : Context → List ℕ → List Derived → List (List ℕ)
other_columns context block_name derived =
    (if has_blocks context.blocks then column_name block_name ∷ [] else []) ++ free_names derived 1 context.factors

-- these, and the derived factors
abbrev pub own_columns : Context → List ℕ → List Derived → List (List ℕ)
own_columns context block_name derived =
    other_columns context block_name derived ++ map (λ (d : Derived). d.name) derived
