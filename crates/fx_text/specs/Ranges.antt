-- Ranges of names, as X2-X5.
use Rattle.std.specs.Prelude.{ℕ, ◌+◌, ◌-◌, ◌==◌, nat_le, not, ◌&&◌, Bool, false, List, [], ◌∷◌, ◌++◌, length, map, take}
use Rattle.std.specs.Prelude.{drop, reverse, decimal, Option, Some, None, if◌then◌else◌}
use Rattle.std.specs.List.{list_all, prefix_len, range_with_len}
use Rattle.std.specs.Str.Parse.{digits_value}
use Rattle.fx_lexer.specs.Bytes.{is_digit}
use Rattle.fx_language.specs.declared.symbol.Symbol.TheVariants.{Minus}
use Rattle.fx_language.specs.Symbols.{is}
use Rattle.fx_text.specs.Written.{Written}
use Rattle.fx_text.specs.Names.{is_same_name}

-- the first of some
abbrev pub first_written : List Written → Option Written
first_written [] = None
first_written (w ∷ rest) = Some w

-- the last name of a range, where `-` follows the first
abbrev pub range_end : List Written → Option Written
range_end [] = None
range_end (w ∷ rest) = if is Minus w.symbol then first_written rest else None

-- how much of a name precedes the longest run of digits at its end
abbrev pub stem_len : List ℕ → ℕ
stem_len name = length name - prefix_len is_digit (reverse name)

-- a name without the digits at its end
abbrev pub stem : List ℕ → List ℕ
stem name = take (stem_len name) name

-- the digits at its end
abbrev pub digits_at_end : List ℕ → List ℕ
digits_at_end name = drop (stem_len name) name

-- the first byte is `0`
abbrev pub begins_with_zero : List ℕ → Bool
begins_with_zero [] = false
begins_with_zero (b ∷ bytes) = b == 48

-- 1 to 38 digits
abbrev pub is_numeral : List ℕ → Bool
is_numeral digits = list_all is_digit digits && nat_le 1 (length digits) && nat_le (length digits) 38

-- a zero that is not alone
abbrev pub has_leading_zero : List ℕ → Bool
has_leading_zero digits = begins_with_zero digits && not (length digits == 1)

-- a number of 1 to 38 digits without a leading zero
abbrev pub is_plain : List ℕ → Bool
is_plain digits = is_numeral digits && not (has_leading_zero digits)

-- the number that the digits at its end write
abbrev pub number_at_end : List ℕ → ℕ
number_at_end name = digits_value 10 (digits_at_end name)

-- two names with the same stem, which is not empty, that end in numbers, the first not above the last
abbrev pub is_range : List ℕ → List ℕ → Bool
is_range first last =
    nat_le 1 (stem_len first) && is_plain (digits_at_end first) && is_plain (digits_at_end last)
    && is_same_name (stem first) (stem last) && nat_le (number_at_end first) (number_at_end last)

-- a stem with each of some numbers in turn
abbrev pub numbered : List ℕ → ℕ → ℕ → List (List ℕ)
numbered stem from count = map (λ n. stem ++ decimal n) (range_with_len from count)

-- the stem of the first name with each number up to that of the last
abbrev pub names_between : List ℕ → List ℕ → List (List ℕ)
names_between first last =
    numbered (stem first) (number_at_end first) (number_at_end last + 1 - number_at_end first)
