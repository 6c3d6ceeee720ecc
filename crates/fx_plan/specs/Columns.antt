-- The columns of a plan: one for each factor that stands in no brackets, and then one for each derived factor.
use Rattle.std.specs.Prelude.{ℕ, ◌-◌, ◌^◌, List, [], ◌∷◌, ◌++◌, length, map, slice_index_or, decimal}
use Rattle.std.specs.List.{range_with_len}
use Rattle.fx_outputs.specs.declared.recode.Recode.{Recode}
use Rattle.fx_outputs.specs.declared.derived.Derived.{Derived}
use Rattle.fx_outputs.specs.DerivedFactors.{free_places}
use Rattle.fx_derived.specs.Codes.{derived_level}
use Rattle.fx_plan.specs.Plans.{values_at}

-- the places of the factors that each column has the codes of
abbrev pub column_places : ℕ → List Derived → List (List ℕ)
column_places s derived = map (λ p. p ∷ []) (free_places s derived) ++ map (λ (d : Derived). d.places) derived

-- the names of the columns, where the factors have these names
abbrev pub column_names : List (List ℕ) → List Derived → List (List ℕ)
column_names names derived =
    map (λ p. slice_index_or names (p - 1) []) (free_places (length names) derived)
    ++ map (λ (d : Derived). d.name) derived

-- the values of a derived factor of so many levels: its own, or else the derived codes
abbrev pub values_or_codes : ℕ → List (List ℕ) → List (List ℕ)
values_or_codes levels [] = map decimal (range_with_len 0 levels)
values_or_codes levels (value ∷ values) = value ∷ values

-- the values of the codes of each column
abbrev pub column_values : ℕ → ℕ → List Recode → List Derived → List (List (List ℕ))
column_values q s recodes derived =
    map (λ p. values_at q recodes p) (free_places s derived)
    ++ map (λ (d : Derived). values_or_codes (q ^ length d.places) d.values) derived

-- the code of a run in each column: of one factor its own, of several their derived code
abbrev pub codes_of : ℕ → List (List ℕ) → List ℕ → List ℕ
codes_of q columns x = map (λ places. derived_level q places x) columns
