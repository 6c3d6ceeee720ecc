-- The columns of a file that are recoded or derived, from left to right.
use Rattle.std.specs.Prelude.{ℕ, ◌+◌, ◌^◌, ◌==◌, nat_le, Bool, ◌&&◌, ◌||◌, List, [], ◌∷◌, ◌++◌, length}
use Rattle.std.specs.Prelude.{drop}
use Rattle.std.specs.Prelude.{slice_get, is_some, Option, Some, None, Result, Ok, Err, if◌then◌else◌}
use Rattle.std.specs.List.{list_any}
use Rattle.fx_language.specs.declared.code.TheConstants.{INVALID_DERIVED_FACTOR, REPEATED_COLUMN, REPEATED_OPTION}
use Rattle.fx_language.specs.declared.code.TheConstants.{UNKNOWN_FACTOR}
use Rattle.fx_language.specs.declared.symbol.Symbol.TheVariants.{OpenBracket, CloseBracket}
use Rattle.fx_language.specs.Symbols.{is, is_output_option}
use Rattle.fx_text.specs.declared.refusal.Refusal.{Refusal}
use Rattle.fx_text.specs.Written.{Written, begins}
use Rattle.fx_text.specs.Names.{place_of}
use Rattle.fx_text.specs.Phrases.{preceding, after}
use Rattle.fx_text.specs.Refusals.{refusal_at, ◌>>=◌}
use Rattle.fx_outputs.specs.declared.recode.Recode.{Recode}
use Rattle.fx_outputs.specs.declared.derived.Derived.{Derived}
use Rattle.fx_outputs.specs.declared.columns.Columns.{Columns}
use Rattle.fx_outputs.specs.Contexts.{Context}
use Rattle.fx_outputs.specs.Values.{values_of, checked_values, values_if_any}
use Rattle.fx_outputs.specs.BlockColumns.{name_or_empty}
use Rattle.fx_outputs.specs.DerivedFactors.{is_bracketed}

-- the place of a factor among the step's, from 1, or E4 at the name
abbrev pub factor_at : Written → Option ℕ → Result ℕ Refusal
factor_at name None = Err (refusal_at UNKNOWN_FACTOR name)
factor_at name (Some i) = Ok (i + 1)

-- the factor at this place has values already
abbrev pub has_values : List Recode → ℕ → Bool
has_values earlier place = list_any (λ (r : Recode). r.place == place) earlier

-- the factor at this place has values already, or stands in brackets
abbrev pub is_used : Columns → ℕ → Bool
is_used done place = has_values done.recodes place || is_bracketed done.derived place

-- a place that is not used yet, or E28 at the name
abbrev pub unused_place : Bool → Written → ℕ → Result ℕ Refusal
unused_place used name place = if used then Err (refusal_at REPEATED_OPTION name) else Ok place

-- A factor and its values, after the columns of the same statement that are earlier. `word` is NVALS or CVALS, `rest`
-- is what follows it.
abbrev pub recode_of : Context → Columns → Written → Written → List Written → Result Recode Refusal
recode_of context done name word rest = do
  factor ← factor_at name (place_of name.text context.factors)
  place ← unused_place (is_used done factor) name factor
  values ← checked_values (Some context.q) word (values_of rest)
  Ok (record { place = place; values = values })

-- 2 to 4 factors in brackets and at most 64 levels, or E35 at `[`
abbrev pub check_size : ℕ → ℕ → Written → Result (Unit {0}) Refusal
check_size q count bracket =
    if nat_le 2 count && nat_le count 4 && nat_le (q ^ count) 64
    then Ok tt else Err (refusal_at INVALID_DERIVED_FACTOR bracket)

-- the places of names in brackets, each by E4 and E28, after those that are earlier in the same brackets
abbrev pub places_behind : Context → Columns → List ℕ → List Written → Result (List ℕ) Refusal
places_behind context done earlier [] = Ok earlier
places_behind context done earlier (name ∷ names) = do
  factor ← factor_at name (place_of name.text context.factors)
  place ← unused_place (is_used done factor || list_any (λ p. p == factor) earlier) name factor
  places_behind context done (earlier ++ place ∷ []) names

-- A derived factor, after the columns of the same statement that are earlier: `bracket` is `[`, and `rest` is what
-- follows it, names up to `]`, `=`, its name, and maybe values.
abbrev pub derived_of : Context → Columns → Written → List Written → Result Derived Refusal
derived_of context done bracket rest =
    let names = preceding CloseBracket rest in
    let behind = after CloseBracket rest in
    do
      _ ← check_size context.q (length names) bracket
      places ← places_behind context done [] names
      values ← values_if_any (Some (context.q ^ length names)) (drop 2 behind)
      Ok (record { places = places; name = name_or_empty (slice_get behind 1); values = values })

abbrev pub with_recode : Columns → Recode → Columns
with_recode done recode = record { recodes = done.recodes ++ recode ∷ []; derived = done.derived }

abbrev pub with_derived : Columns → Derived → Columns
with_derived done derived = record { recodes = done.recodes; derived = done.derived ++ derived ∷ [] }

-- a recoded factor's name, and behind it NVALS or CVALS
abbrev pub recode_at : Context → Columns → Written → List Written → Result Columns Refusal
recode_at context done name [] = Ok done
recode_at context done name (word ∷ rest) =
    recode_of context done name word rest >>= λ recode. Ok (with_recode done recode)

-- what an option says, after the earlier columns: a derived factor, a recoded one, or neither
abbrev pub column_of : Context → Columns → List Written → Result Columns Refusal
column_of context done [] = Ok done
column_of context done (first ∷ rest) =
    if is OpenBracket first.symbol
    then (derived_of context done first rest >>= λ derived. Ok (with_derived done derived))
    else (if is_output_option first.symbol then Ok done else recode_at context done first rest)

-- the recoded and derived factors of options, from left to right, after those that are earlier
abbrev pub columns_behind : Context → Columns → List (List Written) → Result Columns Refusal
columns_behind context done [] = Ok done
columns_behind context done (option ∷ options) =
    column_of context done option >>= λ now. columns_behind context now options

-- the recoded and derived factors of the options of a statement
abbrev pub columns_of : Context → List (List Written) → Result Columns Refusal
columns_of context options = columns_behind context (record { recodes = []; derived = [] }) options

-- the name of a derived factor, if the option has one
abbrev pub derived_name : List Written → Option Written
derived_name option = if begins OpenBracket option then slice_get (after CloseBracket option) 1 else None

-- some names, and before them that of a derived factor, if there is one
abbrev pub with_name : Option Written → List (List ℕ) → List (List ℕ)
with_name None names = names
with_name (Some name) names = name.text ∷ names

-- the names of the derived factors of these options, as they are written
abbrev pub derived_names : List (List Written) → List (List ℕ)
derived_names [] = []
derived_names (option ∷ options) = with_name (derived_name option) (derived_names options)

-- a name is not that of one of these columns or of a later derived factor, or E34 at the name
abbrev pub check_name : List (List ℕ) → Written → List (List ℕ) → Result (Unit {0}) Refusal
check_name columns name later =
    if is_some (place_of name.text columns) || is_some (place_of name.text later)
    then Err (refusal_at REPEATED_COLUMN name)
    else Ok tt

-- the columns with a derived factor's name, if it is none of them and none of later ones
abbrev pub named : List (List ℕ) → Option Written → List (List ℕ) → Result (List (List ℕ)) Refusal
named columns None later = Ok columns
named columns (Some name) later = check_name columns name later >>= λ u. Ok (columns ++ name.text ∷ [])

-- the same of the name of each derived factor; `columns` are the other columns, and the derived ones so far
abbrev pub check_names : List (List ℕ) → List (List Written) → Result (Unit {0}) Refusal
check_names columns [] = Ok tt
check_names columns (option ∷ options) =
    named columns (derived_name option) (derived_names options) >>= λ all. check_names all options
