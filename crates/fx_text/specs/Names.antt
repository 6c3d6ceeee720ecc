-- Names, which are compared without regard to case.
use Rattle.std.specs.Prelude.{ℕ, ◌≡◌, ◌≤◌, Bool, true, List, length, Option, position}
use Rattle.std.specs.List.{list_all}
use Rattle.std.specs.Str.{str_eq_ignore_ascii_case}
use Rattle.fx_lexer.specs.Bytes.{is_word_byte}

-- the same name, without regard to case
abbrev pub is_same_name : List ℕ → List ℕ → Bool
is_same_name a b = str_eq_ignore_ascii_case a b

-- the index of a name among others
abbrev pub place_of : List ℕ → List (List ℕ) → Option ℕ
place_of name names = position (is_same_name name) names

-- a name of 1 to 32 letters, digits and underscores
abbrev pub IsName : List ℕ → Type 0
IsName name = (1 ≤ length name) × (length name ≤ 32) × (list_all is_word_byte name ≡ true)
