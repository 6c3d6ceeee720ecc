-- The numbers of a text.
use Rattle.std.specs.Prelude.{ℕ, ◌≡◌, ◌<◌, ◌≤◌, true, List, length, Option, Some, None, if◌then◌else◌}
use Rattle.std.specs.List.{list_all}
use Rattle.std.specs.Str.Parse.{digits_value}
use Rattle.fx_lexer.specs.Bytes.{is_digit}
use Rattle.fx_language.specs.declared.symbol.Symbol.TheVariants.{Whole}
use Rattle.fx_language.specs.Symbols.{is}
use Rattle.fx_text.specs.Written.{Written}

-- 1 to 38 digits
abbrev pub IsNumber : List ℕ → Type 0
IsNumber bytes = (list_all is_digit bytes ≡ true) × (0 < length bytes) × (length bytes ≤ 38)

-- the number that it is, where it is one without a point
abbrev pub number_of : Written → Option ℕ
number_of w = if is Whole w.symbol then Some (digits_value 10 w.text) else None

-- what holds of all that is written: numbers have digits
abbrev pub IsRead : Written → Type 0
IsRead w = is Whole w.symbol ≡ true → IsNumber w.text
