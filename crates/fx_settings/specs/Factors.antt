-- The factors that a FACTORS statement names.
use Rattle.std.specs.Prelude.{ℕ, ◌+◌, nat_lt, not, Bool, List, [], ◌∷◌, ◌++◌, length, is_some, Result, Ok, Err}
use Rattle.std.specs.Prelude.{if◌then◌else◌}
use Rattle.std.specs.List.{list_any}
use Rattle.fx_language.specs.declared.code.TheConstants.{IRREGULAR_RANGE, REPEATED_NAME, TOO_MANY_FACTORS}
use Rattle.fx_text.specs.declared.refusal.Refusal.{Refusal}
use Rattle.fx_text.specs.Written.{Written}
use Rattle.fx_text.specs.Names.{place_of}
use Rattle.fx_text.specs.Refusals.{refusal_at, ◌>>=◌}
use Rattle.fx_settings.specs.Items.{Item, items_of, is_regular, names_of}

-- some of the new names is among the others
abbrev pub are_known : List (List ℕ) → List (List ℕ) → Bool
are_known new names = list_any (λ name. is_some (place_of name names)) new

-- a name at this place is known, or not
abbrev pub known_at : Written → Bool → Result (Unit {0}) Refusal
known_at first known = if known then Err (refusal_at REPEATED_NAME first) else Ok tt

-- The names with those of one more item, where at most `limit` are allowed. 30: its range is not regular. 10: there are
-- too many. 5: a name is repeated.
abbrev pub added : ℕ → List (List ℕ) → Item → Result (List (List ℕ)) Refusal
added limit names item =
    if not (is_regular item) then Err (refusal_at IRREGULAR_RANGE item.first)
    else (if nat_lt limit (length names + length (names_of item)) then Err (refusal_at TOO_MANY_FACTORS item.first)
    else (if are_known (names_of item) names then Err (refusal_at REPEATED_NAME item.first)
    else Ok (names ++ names_of item)))

-- and of all of them, from left to right
abbrev pub all_added : ℕ → List (List ℕ) → List Item → Result (List (List ℕ)) Refusal
all_added limit names [] = Ok names
all_added limit names (item ∷ items) = added limit names item >>= (λ more. all_added limit more items)

-- the names of a step's factors, where at most `limit` may be
abbrev pub names_of_factors : ℕ → List Written → Result (List (List ℕ)) Refusal
names_of_factors limit statement = all_added limit [] (items_of statement)
