-- The columns of a file that are of no other plan have different names.
use Rattle.std.proofs.Common.{◌≡◌, ℕ, ◌+◌, Bool, true, false, List, [], ◌∷◌, ◌++◌, None, refl, ap}
use Rattle.std.specs.Prelude.{if◌then◌else◌, is_some}
use Rattle.std.specs.List.{IsDistinct}
use Rattle.fx_text.specs.Names.{is_same_name, place_of}
use Rattle.fx_text.proofs.Distinct.{IsNew, not_found}
use Rattle.fx_outputs.specs.declared.derived.Derived.{Derived}
use Rattle.fx_outputs.specs.BlockColumns.{column_name, has_blocks}
use Rattle.fx_outputs.specs.Contexts.{Context}
use Rattle.fx_outputs.specs.DerivedFactors.{is_bracketed}
use Rattle.fx_outputs.specs.OwnColumns.{free_names, other_columns}

module _ (derived : List Derived) where
  new_among : (x : List ℕ) (place : ℕ) (names : List (List ℕ)) → IsNew names x
      → IsNew (free_names derived place names) x
  new_among x place [] h = tt
  new_among x place (name ∷ names) h = by_test (is_bracketed derived place) (new_among x (place + 1) names h.1)
    where
      by_test : (b : Bool) → IsNew (free_names derived (place + 1) names) x
          → IsNew (if b then free_names derived (place + 1) names else name ∷ free_names derived (place + 1) names) x
      by_test true later = later
      by_test false later = (h.0, later)

  pub free_differ : (place : ℕ) (names : List (List ℕ)) → IsDistinct is_same_name names
      → IsDistinct is_same_name (free_names derived place names)
  unfolding IsDistinct
  free_differ place [] h = tt
  free_differ place (name ∷ names) h = by_test (is_bracketed derived place) (free_differ (place + 1) names h.1)
    where
      by_test : (b : Bool) → IsDistinct is_same_name (free_names derived (place + 1) names)
          → IsDistinct is_same_name
          (if b then free_names derived (place + 1) names else name ∷ free_names derived (place + 1) names)
      by_test true later = later
      by_test false later = (new_among name (place + 1) names h.0, later)

  -- with the column of blocks, whose name no factor has
  pub others_differ : (context : Context) (block_name : List ℕ) → IsDistinct is_same_name context.factors
      → (has_blocks context.blocks ≡ true → place_of (column_name block_name) context.factors ≡ None)
      → IsDistinct is_same_name (other_columns context block_name derived)
  unfolding IsDistinct
  others_differ context block_name h column = by_test (has_blocks context.blocks) refl
    where
      by_test : (b : Bool) → has_blocks context.blocks ≡ b
          → IsDistinct is_same_name
          ((if b then column_name block_name ∷ [] else []) ++ free_names derived 1 context.factors)
      by_test true e = (
        new_among (column_name block_name) 1 context.factors
            (not_found context.factors (column_name block_name) (ap is_some (column e))),
        free_differ 1 context.factors h,
      )
      by_test false e = free_differ 1 context.factors h
