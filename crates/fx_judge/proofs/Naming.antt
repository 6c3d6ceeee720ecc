-- Names that are fit, one after another.
use Rattle.std.proofs.Common.{ℕ, ◌≡◌, ◌<◌, ◌+◌, Bool, true, false, not, cond, ◌&&◌, List, [], ◌∷◌, length, drop, get_or}
use Rattle.std.proofs.Common.{refl, ◌∙◌, arith}
use Rattle.std.specs.Prelude.{codes}
use Rattle.std.specs.List.{list_all, list_any}
use Rattle.std.specs.Str.{str_eq_ignore_ascii_case}
use Rattle.std.proofs.lemmas.List.{at_drop_more}
use Rattle.fx_judge.specs.Reading.{are_distinct, are_fit, is_name, unread_columns}
use Rattle.fx_vectors.proofs.Differences.{regroup}

-- the test of one name
abbrev pub fits : List ℕ → List (List ℕ) → Bool
fits name later = is_name name && not (list_any (str_eq_ignore_ascii_case name) later)

-- the next name, and the others
pub fit_step : (names : List (List ℕ)) (i : ℕ) → i < length names
    → are_fit (drop i names) ≡ (fits (get_or names i []) (drop (i + 1) names) && are_fit (drop (i + 1) names))
fit_step names i h =
    at_drop_more are_fit names i [] h
    ∙ regroup (is_name (get_or names i [])) (list_all is_name (drop (i + 1) names))
    (not (list_any (str_eq_ignore_ascii_case (get_or names i [])) (drop (i + 1) names)))
    (are_distinct (drop (i + 1) names))

-- where the next one fits, or does not
pub fit_on : (names : List (List ℕ)) (i : ℕ) (b : Bool) → i < length names
    → b ≡ fits (get_or names i []) (drop (i + 1) names) → b ≡ true
    → are_fit (drop i names) ≡ are_fit names → are_fit (drop (i + 1) names) ≡ are_fit names
fit_on names i b h is e so =
    cc (fit_step names i h)

pub fit_off : (names : List (List ℕ)) (i : ℕ) (b : Bool) → i < length names
    → b ≡ fits (get_or names i []) (drop (i + 1) names) → b ≡ false
    → are_fit (drop i names) ≡ are_fit names → false ≡ are_fit names
fit_off names i b h is e so =
    cc (fit_step names i h)

-- the columns that are left unread
pub none_unread : (fields : List (List ℕ)) → length fields ≡ 0 → 0 ≡ unread_columns fields
none_unread [] h = refl
none_unread (x ∷ fields) h = absurd (omega arith)

pub first_unread : (fields : List (List ℕ)) (x : List ℕ) (b : Bool) → 0 < length fields → x ≡ get_or fields 0 []
    → b ≡ str_eq_ignore_ascii_case x (codes "BLOCK") → cond b 1 0 ≡ unread_columns fields
first_unread [] x b h e is = absurd (omega arith)
first_unread (y ∷ fields) x b h e is =
    cc
