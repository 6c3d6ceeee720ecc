-- Listings of components, which EXAMINE asks for by ALIASING and BLOCKED: of how many factors components are listed,
-- and which listings are too long.
use Rattle.std.specs.Prelude.{ℕ, ◌||◌, nat_lt, min, max, Bool, List, [], ◌∷◌, Option, Some, None, Result, Ok, Err}
use Rattle.std.specs.Prelude.{if◌then◌else◌}
use Rattle.fx_designs.specs.Components.{listed_count}
use Rattle.fx_designs.specs.Problems.{Requirement, AtResolution, ForEffects}
use Rattle.fx_language.specs.declared.code.TheConstants.{TOO_MANY_EFFECTS}
use Rattle.fx_text.specs.declared.refusal.Refusal.{Refusal}
use Rattle.fx_lexer.specs.declared.place.Place.{Place}
use Rattle.fx_text.specs.Written.{Written, begins}
use Rattle.fx_text.specs.Refusals.{place_at, refused_at}
use Rattle.fx_language.specs.declared.symbol.Symbol.TheVariants.{Aliasing, Blocked, Examine}
use Rattle.fx_language.specs.Symbols.{is}
use Rattle.fx_vectors.specs.Effects.{most_factors}
use Rattle.fx_statements.specs.declared.components.TheConstants.{MOST_COMPONENTS}

-- Components of one and two factors are listed, and those of as many as an effect that is named has.
abbrev pub listed_factors : Requirement → ℕ
listed_factors (AtResolution r) = 2
listed_factors (ForEffects estimate nonnegligible) = max 2 (max (most_factors estimate) (most_factors nonnegligible))

-- the word asks for a listing of components
abbrev pub is_for_components : Written → Bool
is_for_components w = is Aliasing w.symbol || is Blocked w.symbol

-- the place of the first such word among some
abbrev pub first_components : List Written → Option Place
first_components [] = None
first_components (w ∷ rest) = if is_for_components w then Some (place_at w) else first_components rest

-- and of an EXAMINE statement
abbrev pub components_asked : List Written → Option Place
components_asked s = if begins Examine s then first_components s else None

-- the first place, or else the other
abbrev pub place_or : Option Place → Option Place → Option Place
place_or (Some place) other = Some place
place_or None other = other

-- and of a step
abbrev pub components_place : List (List Written) → Option Place
components_place [] = None
components_place (s ∷ statements) = place_or (components_asked s) (components_place statements)

-- at most 100,000 components may be listed in a step of s factors, or E23 at the word that asks for them
abbrev pub check_components : ℕ → ℕ → Requirement → Option Place → Result (Unit {0}) Refusal
check_components q s requirement None = Ok tt
check_components q s requirement (Some place) =
    if nat_lt MOST_COMPONENTS (listed_count q s (min s (listed_factors requirement)))
    then Err (refused_at TOO_MANY_EFFECTS place) else Ok tt
