-- How many bytes an item has.
use Rattle.std.specs.Prelude.{ℕ, suc, ◌+◌, ◌==◌, nat_lt, not, ◌&&◌, Bool, false, List, [], ◌∷◌, Option, Some, None}
use Rattle.std.specs.Prelude.{if◌then◌else◌}
use Rattle.std.specs.List.{prefix_len}
use Rattle.std.specs.Option.{option_map}
use Rattle.fx_lexer.specs.Bytes.{is_digit}

-- whether b is the first byte
abbrev pub starts_with_byte : ℕ → List ℕ → Bool
starts_with_byte c [] = false
starts_with_byte c (b ∷ bytes) = b == c

-- `/*`
abbrev pub begins_comment : List ℕ → Bool
begins_comment [] = false
begins_comment (b ∷ bytes) = (b == 47) && starts_with_byte 42 bytes

-- `*/`
abbrev pub ends_comment : List ℕ → Bool
ends_comment [] = false
ends_comment (b ∷ bytes) = (b == 42) && starts_with_byte 47 bytes

-- up to and with the first `*/`
abbrev pub closing_len : List ℕ → Option ℕ
closing_len [] = None
closing_len (b ∷ bytes) = if ends_comment (b ∷ bytes) then Some 2 else option_map suc (closing_len bytes)

-- a remark is a comment that is a statement of its own: `*` where a statement starts
abbrev pub begins_remark : Bool → List ℕ → Bool
begins_remark start bytes = start && starts_with_byte 42 bytes

-- up to and with the first `;`
abbrev pub remark_len : List ℕ → Option ℕ
remark_len [] = None
remark_len (b ∷ bytes) = if b == 59 then Some 1 else option_map suc (remark_len bytes)

-- a quote that is neither the first nor the second of a pair; `in_pair`: the one before was a first
abbrev pub ends_quoted : ℕ → Bool → List ℕ → Bool
ends_quoted quote in_pair [] = false
ends_quoted quote in_pair (b ∷ bytes) = not in_pair && (b == quote) && not (starts_with_byte quote bytes)

-- the first of a pair, where this byte doesn't end the quoted text
abbrev pub opens_pair : ℕ → Bool → ℕ → Bool
opens_pair quote in_pair b = not in_pair && (b == quote)

-- up to and with the first quote that isn't one of a pair
abbrev pub quoted_len : ℕ → Bool → List ℕ → Option ℕ
quoted_len quote in_pair [] = None
quoted_len quote in_pair (b ∷ bytes) =
    if ends_quoted quote in_pair (b ∷ bytes) then Some 1
    else option_map suc (quoted_len quote (opens_pair quote in_pair b) bytes)

-- a point and the digits after it, or 0 where there are none
abbrev pub fraction_len : List ℕ → ℕ
fraction_len [] = 0
fraction_len (b ∷ bytes) =
    if (b == 46) && nat_lt 0 (prefix_len is_digit bytes) then 1 + prefix_len is_digit bytes else 0
