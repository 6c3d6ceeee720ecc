-- A matrix that rules give meets a requirement where no row is barred by those before it.
use Rattle.std.proofs.Common.{ℕ, ◌≡◌, ◌<◌, ◌+◌, true, false, suc, List, [], ◌∷◌, ◌++◌, length, take, drop, slice_index}
use Rattle.std.proofs.Common.{take-suc, sym, ap, ◌∙◌}
use Rattle.std.proofs.lemmas.Bool.{both_ways, false_from_ne_true}
use Rattle.std.proofs.lemmas.List.{take-append-drop}
use Rattle.fx_designs.specs.Galois.{IsField}
use Rattle.fx_designs.specs.Problems.{Dimensions, Requirement}
use Rattle.fx_designs.specs.Demands.{is_allowed, is_met}
use Rattle.fx_laws.proofs.Candidates.{closed-append}
use Rattle.fx_reduction.proofs.AllowedFronts.{front-allowed}
use Rattle.fx_reduction.proofs.Prefix.{met-prefix}

module _ (d : Dimensions) (f : IsField d.q) (wanted : Requirement) (rows : List ℕ)
    (whole : length rows ≡ d.s + d.t) where
  front : (i : ℕ) → i < length rows → is_allowed d wanted rows ≡ true
      → is_allowed d wanted (take i rows ++ slice_index rows i ∷ []) ≡ true
  front i low h =
      closed-append (is_allowed d wanted) (front-allowed d f wanted) _
      (drop (suc i) rows)
      (rw (sym (take-append-drop (suc i) rows) ∙ ap (λ z. z ++ drop (suc i) rows) (take-suc rows i 0 low)) at h)

  pub barred_row : (i : ℕ) → i < length rows → is_allowed d wanted (take i rows ++ slice_index rows i ∷ []) ≡ false
      → is_met d wanted rows ≡ false
  barred_row i low barred =
      met-prefix d f wanted rows whole
      ∙ false_from_ne_true (is_allowed d wanted rows) (λ all. both_ways _ barred (front i low all))

  pub no_barred_row : is_allowed d wanted rows ≡ true → is_met d wanted rows ≡ true
  no_barred_row h = cc (met-prefix d f wanted rows whole)
