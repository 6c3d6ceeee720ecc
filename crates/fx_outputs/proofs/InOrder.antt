-- The factors in brackets are read from left to right.
use Rattle.std.proofs.Common.{◌≡◌, ℕ, ◌||◌, Bool, List, [], ◌∷◌, ◌++◌, Ok, Err}
use Rattle.std.specs.Prelude.{◌==◌}
use Rattle.std.specs.List.{list_any}
use Rattle.fx_text.specs.declared.refusal.Refusal.{Refusal}
use Rattle.fx_text.specs.Names.{place_of}
use Rattle.fx_text.specs.Written.{Written}
use Rattle.fx_outputs.specs.declared.columns.Columns.{Columns}
use Rattle.fx_outputs.specs.Contexts.{Context}
use Rattle.fx_outputs.specs.Columns.{factor_at, is_used, places_behind, unused_place}

module _ (context : Context) (done : Columns) (earlier : List ℕ) (name : Written) (names : List Written) (factor : ℕ)
    (used : Bool) (told : Ok factor ≡ factor_at name (place_of name.text context.factors))
    (taken : used ≡ (is_used done factor || list_any (λ p. p == factor) earlier)) where
  pub place_refused : (refusal : Refusal) → Err refusal ≡ unused_place used name factor
      → places_behind context done earlier (name ∷ names) ≡ Err refusal
  place_refused refusal h = rw (← told, ← taken, ← h)

  pub place_read : (place : ℕ) → Ok place ≡ unused_place used name factor
      → places_behind context done earlier (name ∷ names) ≡ places_behind context done (earlier ++ place ∷ []) names
  place_read place h = rw (← told, ← taken, ← h)
