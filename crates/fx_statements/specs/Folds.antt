-- The factors that a step folds over.
use Rattle.std.specs.Prelude.{ℕ, ◌≡◌, ◌<◌, ◌==◌, ◌&&◌, not, All, List, [], ◌∷◌, length, replicate, slice_set, false, Option, Some}
use Rattle.std.specs.Prelude.{None, Result, Ok, Err, if◌then◌else◌}
use Rattle.fx_designs.specs.Vectors.{zeros}
use Rattle.fx_language.specs.declared.code.TheConstants.{FOLDOVER_NEEDS_TWO_LEVELS, IRREGULAR_RANGE, UNKNOWN_FACTOR}
use Rattle.fx_language.specs.declared.symbol.Symbol.TheVariants as word
use Rattle.fx_text.specs.declared.refusal.Refusal.{Refusal}
use Rattle.fx_text.specs.Written.{Written}
use Rattle.fx_text.specs.Names.{place_of}
use Rattle.fx_text.specs.Phrases.{start_of}
use Rattle.fx_text.specs.Refusals.{refusal_at, refused_at, ◌>>=◌}
use Rattle.fx_text.specs.Statements.{statement_of}
use Rattle.fx_settings.specs.Items.{Item, items_behind, is_regular, names_of}
use Rattle.fx_settings.specs.Valid.{has_blocks}
use Rattle.fx_settings.specs.declared.settings.Blocks.{Blocks}
use Rattle.fx_settings.specs.declared.settings.StepSettings.{StepSettings}
use Rattle.fx_statements.specs.declared.fold.Fold.{Fold}
use Rattle.fx_statements.specs.declared.fold.Fold.TheVariants as fold

-- A fold is a vector with 1 for each factor that is folded, and 0 for the others.

-- with the factor at this index, or E4 where there is none
abbrev pub folded_at : Written → List ℕ → Option ℕ → Result (List ℕ) Refusal
folded_at w codes None = Err (refusal_at UNKNOWN_FACTOR w)
folded_at w codes (Some i) = Ok (slice_set codes i 1)

-- with the factors of these names, from left to right
abbrev pub names_folded : Written → List (List ℕ) → List ℕ → List (List ℕ) → Result (List ℕ) Refusal
names_folded w factors codes [] = Ok codes
names_folded w factors codes (name ∷ names) =
    folded_at w codes (place_of name factors) >>= (λ more. names_folded w factors more names)

-- With those of an item. 30: its range is not regular. 4: a name is no factor's.
abbrev pub item_folded : List (List ℕ) → List ℕ → Item → Result (List ℕ) Refusal
item_folded factors codes item =
    if not (is_regular item) then Err (refusal_at IRREGULAR_RANGE item.first)
    else names_folded item.first factors codes (names_of item)

-- with those of all these items
abbrev pub items_folded : List (List ℕ) → List ℕ → List Item → Result (List ℕ) Refusal
items_folded factors codes [] = Ok codes
items_folded factors codes (item ∷ items) =
    item_folded factors codes item >>= (λ more. items_folded factors more items)

-- the codes by a FOLDOVER statement: without an item all factors are folded
abbrev pub codes_by : List (List ℕ) → List Written → Result (List ℕ) Refusal
codes_by factors (word ∷ w ∷ rest) =
    items_folded factors (zeros (length factors)) (items_behind (word ∷ w ∷ rest))
codes_by factors s = Ok (replicate (length factors) 1)

-- the fold by a FOLDOVER statement: E36 with other than two levels, or with blocks
abbrev pub fold_by : List (List ℕ) → StepSettings → List Written → Result Fold Refusal
fold_by factors settings statement =
    if (settings.q == 2) && not (has_blocks settings.blocks)
    then codes_by factors statement >>= (λ codes. Ok (fold.Factors codes))
    else Err (refused_at FOLDOVER_NEEDS_TWO_LEVELS (start_of statement))

abbrev pub fold_in : List (List ℕ) → StepSettings → Option (List Written) → Result Fold Refusal
fold_in factors settings None = Ok fold.Without
fold_in factors settings (Some statement) = fold_by factors settings statement

-- the fold of a step with these factors and settings
abbrev pub fold_of : List (List ℕ) → StepSettings → List (List Written) → Result Fold Refusal
fold_of factors settings statements = fold_in factors settings (statement_of word.Foldover statements)

-- where a step has a fold, it has two levels and no blocks, and the fold has a code, 0 or 1, for each of its s factors
abbrev pub IsFold : ℕ → Blocks → ℕ → Fold → Type 0
IsFold q given s chosen =
    (codes : List ℕ) → chosen ≡ fold.Factors codes
    → (q ≡ 2) × (has_blocks given ≡ false) × (length codes ≡ s) × All (λ c. c < 2) codes
