-- The names of the factors that stand in no brackets.
use Rattle.std.proofs.Common.{◌≡◌, ℕ, ◌+◌, true, false, List, ◌∷◌}
use Rattle.fx_outputs.specs.declared.derived.Derived.{Derived}
use Rattle.fx_outputs.specs.DerivedFactors.{is_bracketed}
use Rattle.fx_outputs.specs.OwnColumns.{free_names}

module _ (derived : List Derived) (place : ℕ) (name : List ℕ) (names : List (List ℕ)) where
  pub own_name : is_bracketed derived place ≡ false
      → free_names derived place (name ∷ names) ≡ name ∷ free_names derived (place + 1) names
  own_name free = rw free

  pub bracketed_name : is_bracketed derived place ≡ true
      → free_names derived place (name ∷ names) ≡ free_names derived (place + 1) names
  bracketed_name taken = rw taken
