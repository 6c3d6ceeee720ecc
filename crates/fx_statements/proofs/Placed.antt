-- A text that is no program is refused by a rule, at a place of the text.
use Rattle.std.proofs.Common.{◌≡◌, ℕ, zero, suc, Bool, true, false, List, [], ◌∷◌, ◌++◌, length, Option, Some, None}
use Rattle.std.proofs.Common.{refl, sym, append-nil}
use Rattle.std.specs.Prelude.{IfSome, ◌==◌, ◌&&◌, not, nat_lt, min, slice_get, if◌then◌else◌}
use Rattle.std.specs.List.{AllByRecursion}
use Rattle.fx_designs.specs.Components.{listed_count}
use Rattle.fx_lexer.specs.declared.place.Place.{Place}
use Rattle.fx_lexer.specs.declared.token.Token.{Token}
use Rattle.fx_lexer.specs.Places.{IsPlaceIn}
use Rattle.fx_designs.specs.Problems.{Requirement}
use Rattle.fx_language.specs.declared.symbol.Symbol.TheVariants as symbol
use Rattle.fx_language.specs.Keywords.{symbols_of}
use Rattle.fx_language.specs.Refusals.{is_rule}
use Rattle.fx_language.proofs.FirstRefusal.{first_by_a_rule}
use Rattle.fx_text.specs.Written.{Written, written}
use Rattle.fx_text.specs.Phrases.{start_of}
use Rattle.fx_text.specs.Statements.{statements_of}
use Rattle.fx_text.specs.Refusals.{place_at}
use Rattle.fx_settings.specs.declared.settings.Criterion.{Criterion}
use Rattle.fx_settings.specs.declared.settings.Criterion.TheVariants as criterion
use Rattle.fx_settings.specs.declared.said.StepSaid.{StepSaid}
use Rattle.fx_settings.specs.Said.{step_said}
use Rattle.fx_settings.specs.Settings.{unblocked_of, step_settings_of}
use Rattle.fx_effects.specs.Models.{lists_of}
use Rattle.fx_settings.specs.Factors.{names_of_factors}
use Rattle.fx_settings.specs.Items.{Item, is_regular}
use Rattle.fx_settings.specs.Items.{names_of as item_names}
use Rattle.fx_settings.specs.Valid.{has_blocks}
use Rattle.fx_settings.specs.declared.settings.StepSettings.{StepSettings}
use Rattle.fx_text.specs.Names.{place_of}
use Rattle.fx_statements.specs.Folds.{folded_at, names_folded, item_folded, items_folded, codes_by, fold_in, fold_of}
use Rattle.fx_outputs.specs.declared.earlier.EarlierPlan.{EarlierPlan}
use Rattle.fx_outputs.specs.Outputs.{outputs_of}
use Rattle.fx_statements.specs.Contexts.{context}
use Rattle.fx_statements.specs.Requirements.{effects_by, effects_required, requirement_by}
use Rattle.fx_statements.specs.Components.{listed_factors, first_components, components_asked}
use Rattle.fx_statements.specs.Components.{place_or, components_place, check_components}
use Rattle.fx_statements.specs.Steps.{Meaning, factor_limit, some_factors, factors_by, head_of, asked_by, step_by}
use Rattle.fx_statements.specs.Steps.{plans_after, step_of}
use Rattle.fx_statements.specs.Programs.{steps_behind, place_in, accepted, program_of}
use Rattle.fx_text.proofs.Placed as placed
use Rattle.fx_text.proofs.Placed.{IsPlaced, ArePlaced, AreAllPlaced, Placed}
use Rattle.fx_settings.proofs.ItemsPlaced as factors
use Rattle.fx_settings.proofs.Placed as settings
use Rattle.fx_settings.proofs.Placed.{IsPlace, IsSaidPlaced}
use Rattle.fx_effects.proofs.Placed as effects
use Rattle.fx_outputs.proofs.Placed as outputs

module _ (P : ℕ → ℕ → Type 0) (front : P 1 1) where
  effects_placed : (q : ℕ) (names : List (List ℕ)) (s : List Written) → ArePlaced P s → Placed P (effects_by q names s)
  effects_placed q names s h = placed.chain P (lists_of q names s) _ (effects.lists P q names s front h) (λ lists. tt)

  requirement : (q : ℕ) (names : List (List ℕ)) (statements : List (List Written)) (c : Criterion)
      → AreAllPlaced P statements
      → Placed P (requirement_by q names statements c)
  requirement q names statements (criterion.Resolution r) h = tt
  requirement q names statements criterion.Highest h = tt
  requirement q names statements criterion.Effects h =
      of_model _ (placed.statement P symbol.Model statements h)
    where
      of_model : (s : Option (List Written)) → IfSome s (ArePlaced P) → Placed P (effects_required q names s)
      of_model None h = effects_placed q names [] tt
      of_model (Some s) h = effects_placed q names s h

  first_place : (s : List Written) → ArePlaced P s → IfSome (first_components s) (IsPlace P)
  first_place [] h = tt
  first_place (w ∷ rest) h = by_test _ (first_place rest h.1)
    where
      by_test : (b : Bool) → IfSome (first_components rest) (IsPlace P)
          → IfSome (if b then Some (place_at w) else first_components rest) (IsPlace P)
      by_test true later = h.0
      by_test false later = later

  either_place : (a b : Option Place) → IfSome a (IsPlace P) → IfSome b (IsPlace P) → IfSome (place_or a b) (IsPlace P)
  either_place None b h k = k
  either_place (Some place) b h k = h

  asked_place : (s : List Written) → ArePlaced P s → IfSome (components_asked s) (IsPlace P)
  asked_place s h = by_test _
    where
      by_test : (b : Bool) → IfSome (if b then first_components s else None) (IsPlace P)
      by_test true = first_place s h
      by_test false = tt

  listing_place : (statements : List (List Written)) → AreAllPlaced P statements
      → IfSome (components_place statements) (IsPlace P)
  listing_place [] h = tt
  listing_place (s ∷ rest) h =
      either_place _ _ (asked_place s h.0) (listing_place rest h.1)

  few_components : (q s : ℕ) (g : Requirement) (place : Option Place) → IfSome place (IsPlace P)
      → Placed P (check_components q s g place)
  few_components q s g None h = tt
  few_components q s g (Some place) h =
      placed.both P (nat_lt 100000 (listed_count q s (min s (listed_factors g)))) _ _ (placed.here P 23 place refl h) tt

  asked : (names : List (List ℕ)) (said : StepSaid) (statements : List (List Written)) → IsSaidPlaced P said
      → AreAllPlaced P statements → Placed P (asked_by names said statements)
  asked names said statements k h =
      placed.chain P (unblocked_of (length names) said) _ (settings.unblocked P said k (length names)) (λ unblocked.
      placed.chain P (requirement_by unblocked.q names statements unblocked.criterion) _
      (requirement unblocked.q names statements unblocked.criterion h) (λ g.
      placed.chain P (step_settings_of unblocked said) _ (settings.settings P said k unblocked) (λ x.
      placed.chain P (check_components unblocked.q (length names) g (components_place statements)) _
      (few_components unblocked.q (length names) g _ (listing_place statements h))
      (λ listed. tt))))

  folded_here : (w : Written) (codes : List ℕ) (i : Option ℕ) → IsPlaced P w → Placed P (folded_at w codes i)
  folded_here w codes None h = placed.written P 4 w refl h
  folded_here w codes (Some i) h = tt

  folded_names : (w : Written) (factors : List (List ℕ)) (codes : List ℕ) (names : List (List ℕ)) → IsPlaced P w
      → Placed P (names_folded w factors codes names)
  folded_names w factors codes [] h = tt
  folded_names w factors codes (name ∷ names) h =
      placed.chain P (folded_at w codes (place_of name factors)) (λ more. names_folded w factors more names)
      (folded_here w codes (place_of name factors) h) (λ more. folded_names w factors more names h)

  folded_item : (factors : List (List ℕ)) (codes : List ℕ) (i : Item) → IsPlaced P i.first
      → Placed P (item_folded factors codes i)
  folded_item factors codes i h =
      placed.both P (not (is_regular i)) _ _ (placed.written P 30 i.first refl h)
      (folded_names i.first factors codes (item_names i) h)

  folded_items : (factors : List (List ℕ)) (codes : List ℕ) (s : List Item)
      → AllByRecursion (λ (i : Item). IsPlaced P i.first) s → Placed P (items_folded factors codes s)
  folded_items factors codes [] h = tt
  folded_items factors codes (i ∷ s) h =
      placed.chain P (item_folded factors codes i) (λ more. items_folded factors more s)
      (folded_item factors codes i h.0) (λ more. folded_items factors more s h.1)

  codes_placed : (names : List (List ℕ)) (s : List Written) → ArePlaced P s → Placed P (codes_by names s)
  codes_placed names [] h = tt
  codes_placed names (word ∷ []) h = tt
  codes_placed names (word ∷ w ∷ rest) h =
      folded_items names _ _ (factors.items P (word ∷ w ∷ rest) h)

  fold : (names : List (List ℕ)) (x : StepSettings) (statements : List (List Written)) → AreAllPlaced P statements
      → Placed P (fold_of names x statements)
  fold names x statements h =
      of_statement _ (placed.statement P symbol.Foldover statements h)
    where
      of_statement : (s : Option (List Written)) → IfSome s (ArePlaced P) → Placed P (fold_in names x s)
      of_statement None h = tt
      of_statement (Some s) h =
          placed.both P ((x.q == 2) && not (has_blocks x.blocks)) _ _
          (placed.chain P (codes_by names s) _ (codes_placed names s h) (λ codes. tt))
          (placed.here P 36 (start_of s) refl (placed.start P s front h))

  head : (statements : List (List Written)) → AreAllPlaced P statements → ArePlaced P (head_of statements)
  head [] h = tt
  head (s ∷ rest) h = h.0

  some : (proc : Place) (names : List (List ℕ)) → IsPlace P proc → Placed P (some_factors proc names)
  some proc [] h = placed.here P 7 proc refl h
  some proc (name ∷ names) h = tt

  step : (earlier : List EarlierPlan) (statements : List (List Written)) → AreAllPlaced P statements
      → Placed P (step_of earlier statements)
  step earlier statements h =
      of_factors _ (placed.statement P symbol.Factors statements h)
    where
      proc : ArePlaced P (head_of statements)
      proc = head statements h

      start : IsPlace P (start_of (head_of statements))
      start = placed.start P (head_of statements) front proc

      of_factors : (named : Option (List Written)) → IfSome named (ArePlaced P)
          → Placed P (step_by earlier statements named)
      of_factors None k = placed.here P 7 (start_of (head_of statements)) refl start
      of_factors (Some named) k =
          placed.chain P (factors_by (start_of (head_of statements)) (factor_limit named statements) named) _
          (placed.chain P (names_of_factors (factor_limit named statements) named) _
          (factors.factors P (factor_limit named statements) named k)
          (λ names. some _ names start)) (λ names.
          placed.chain P (asked_by names (step_said (head_of statements) named statements) statements) _
          (asked names _ statements
          (settings.said P (head_of statements) named statements front proc k h) h) (λ x.
          placed.chain P (fold_of names x.0 statements) _ (fold names x.0 statements h) (λ f.
          placed.chain P (outputs_of (context names x.0) earlier statements) _
          (outputs.outputs P (context names x.0) earlier statements h) (λ o. tt))))

  steps : (earlier : List EarlierPlan) (done : List Meaning) (all : List (List (List Written)))
      → AllByRecursion (AreAllPlaced P) all → Placed P (steps_behind earlier done all)
  steps earlier done [] h = tt
  steps earlier done (s ∷ rest) h =
      placed.chain P (step_of earlier s)
      (λ (meaning : Meaning). steps_behind (plans_after earlier meaning) (done ++ meaning ∷ []) rest)
      (step earlier s h.0) (λ meaning. steps (plans_after earlier meaning) (done ++ meaning ∷ []) rest h.1)

all_written : (text : List ℕ) (tokens : List Token)
    → AllByRecursion (λ (t : Token). IsPlaceIn text t.line t.column) tokens
    → ArePlaced (IsPlaceIn text) (written text tokens)
all_written text [] h = tt
all_written text (t ∷ tokens) h = (h.0, all_written text tokens h.1)

place_of_token : (text : List ℕ) (tokens : List Token) (i : ℕ)
    → AllByRecursion (λ (t : Token). IsPlaceIn text t.line t.column) tokens
    → IsPlace (IsPlaceIn text) (place_in text (slice_get tokens i))
place_of_token text [] i h =
    record { before = text; after = []; joined = sym (append-nil text); line_is = refl; column_is = refl }
place_of_token text (t ∷ tokens) zero h = h.0
place_of_token text (t ∷ tokens) (suc i) h = place_of_token text tokens i h.1

-- the law for a text with these tokens
pub refused : (text : List ℕ) (tokens : List Token)
    → AllByRecursion (λ (t : Token). IsPlaceIn text t.line t.column) tokens
    → Placed (IsPlaceIn text) (program_of text tokens)
unfolding program_of
refused text tokens h = of_first _ (first_by_a_rule (symbols_of text tokens))
  where
    front : IsPlaceIn text 1 1
    front = record { before = []; after = text; joined = refl; line_is = refl; column_is = refl }

    of_first : (r : Option (ℕ × ℕ)) → IfSome r (λ x. is_rule x.0 ≡ true)
        → Placed (IsPlaceIn text) (accepted text tokens r)
    of_first (Some r) rule =
        placed.here (IsPlaceIn text) r.0 (place_in text (slice_get tokens r.1)) rule (place_of_token text tokens r.1 h)
    of_first None rule =
        steps _ front [] [] _
        (placed.steps (IsPlaceIn text) (statements_of (written text tokens))
        (placed.statements (IsPlaceIn text) (written text tokens) (all_written text tokens h)))
