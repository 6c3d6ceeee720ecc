-- Derived factors, and the factors that keep a column of their own.
use Rattle.std.specs.Prelude.{ℕ, ◌≡◌, ◌≢◌, ◌≤◌, ◌^◌, ◌==◌, Bool, true, not, List, [], length, filter, All}
use Rattle.std.specs.List.{list_any, range_with_len}
use Rattle.fx_derived.specs.Codes.{ArePlaces}
use Rattle.fx_outputs.specs.declared.derived.Derived.{Derived}
use Rattle.fx_outputs.specs.declared.recode.Recode.{Recode}

-- the factor at a place, counted from 1, stands in brackets
abbrev pub is_bracketed : List Derived → ℕ → Bool
is_bracketed derived place = list_any (λ (d : Derived). list_any (λ p. p == place) d.places) derived

-- the places of the factors that stand in no brackets, in order
abbrev pub free_places : ℕ → List Derived → List ℕ
free_places s derived = filter (λ place. not (is_bracketed derived place)) (range_with_len 1 s)

-- derived factors of s factors of q levels: of different factors, with at most 64 levels, and with a value for each
-- level or none
pub record AreDerived (q s : ℕ) (derived : List Derived) : Type 0 where
  pub places : All (λ (d : Derived). ArePlaces s d.places) derived
  pub some : All (λ (d : Derived). 2 ≤ length d.places) derived
  pub few : All (λ (d : Derived). length d.places ≤ 4) derived
  pub levels : All (λ (d : Derived). q ^ length d.places ≤ 64) derived
  pub values : All (λ (d : Derived). d.values ≢ [] → length d.values ≡ q ^ length d.places) derived

-- no factor that has values of its own stands in brackets
abbrev pub AreFree : List Derived → List Recode → Type 0
AreFree derived recodes = All (λ (r : Recode). is_bracketed derived r.place ≢ true) recodes
