-- The item that a text begins with.
use Rattle.std.specs.Prelude.{ℕ, suc, ◌+◌, ◌==◌, nat_lt, nat_le, Bool, false, List, [], ◌∷◌, drop, Option, Some, None}
use Rattle.std.specs.Prelude.{Result, Ok, Err, if◌then◌else◌}
use Rattle.std.specs.List.{prefix_len}
use Rattle.std.specs.Option.{option_map}
use Rattle.fx_lexer.specs.declared.token.Kind.{Kind}
use Rattle.fx_lexer.specs.declared.token.Kind.TheVariants as kind
use Rattle.fx_lexer.specs.declared.item.Item.{Item}
use Rattle.fx_lexer.specs.Bytes.{is_white, is_digit, begins_word, is_word_byte, is_sign, is_quote}
use Rattle.fx_lexer.specs.Extents.{begins_comment, closing_len, begins_remark, remark_len, quoted_len, fraction_len}

-- a token of so many bytes
abbrev pub token : Kind → ℕ → Result Item ℕ
token k n = Ok (record { kind = Some k; length = n })

-- a token, unless it has more bytes than its kind may have
abbrev pub limited : Kind → ℕ → ℕ → ℕ → Result Item ℕ
limited k n limit fault = if nat_le n limit then token k n else Err fault

-- white space or a comment, which is no token
abbrev pub gap : ℕ → Result Item ℕ
gap n = Ok (record { kind = None; length = n })

-- a comment, if it ends
abbrev pub comment_if_closed : Option ℕ → Result Item ℕ
comment_if_closed None = Err 1
comment_if_closed (Some n) = gap n

-- a quoted text, if it ends
abbrev pub quoted_if_closed : Option ℕ → Result Item ℕ
quoted_if_closed None = Err 2
quoted_if_closed (Some n) = token kind.Quoted n

-- whether there are digits, before a point or after it
abbrev pub begins_number : ℕ → ℕ → Bool
begins_number whole fraction = nat_lt 0 (whole + fraction)

-- a number of so many bytes before its point, and so many from the point on
abbrev pub item_of_number : ℕ → ℕ → Result Item ℕ
item_of_number whole fraction =
    if fraction == 0 then limited kind.Whole whole 38 4 else limited kind.Decimal (whole + fraction) 38 4

-- the token that a text begins with, which begins with no gap, or the kind of its fault
abbrev pub token_item : List ℕ → Result Item ℕ
token_item [] = Err 3
token_item (b ∷ bytes) =
    let whole = prefix_len is_digit (b ∷ bytes) in
    let fraction = fraction_len (drop whole (b ∷ bytes)) in
    if begins_word b then limited kind.Word (prefix_len is_word_byte (b ∷ bytes)) 32 5
    else (if begins_number whole fraction then item_of_number whole fraction
    else (if is_quote b then quoted_if_closed (option_map suc (quoted_len b false bytes))
    else (if is_sign b then token kind.Sign 1
    else Err 3)))

-- the item that a text begins with, or the kind of its fault; `start`: a statement starts here
abbrev pub first_item : Bool → List ℕ → Result Item ℕ
first_item start [] = gap 0
first_item start (b ∷ bytes) =
    if is_white b then gap 1
    else (if begins_comment (b ∷ bytes) then comment_if_closed (option_map (λ n. 2 + n) (closing_len (drop 1 bytes)))
    else (if begins_remark start (b ∷ bytes) then comment_if_closed (remark_len (b ∷ bytes))
    else token_item (b ∷ bytes)))
