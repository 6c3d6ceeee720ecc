-- The tokens of a text, or its first fault.
use Rattle.std.specs.Prelude.{◌≡◌, ℕ, zero, suc, ◌+◌, ◌-◌, ◌==◌, Bool, true, List, [], ◌∷◌, ◌++◌, take, Option, Some}
use Rattle.std.specs.Prelude.{None, is_some, Result, Ok, Err, if◌then◌else◌}
use Rattle.fx_lexer.specs.declared.token.Kind.{Kind}
use Rattle.fx_lexer.specs.declared.token.Token.{Token}
use Rattle.fx_lexer.specs.declared.token.LexFault.{LexFault}
use Rattle.fx_lexer.specs.declared.token.LexStop.{LexStop}
use Rattle.fx_lexer.specs.declared.token.LexStop.TheVariants as stop
use Rattle.fx_lexer.specs.declared.item.Item.{Item}
use Rattle.fx_lexer.specs.declared.place.Place.{Place}
use Rattle.fx_lexer.specs.Items.{first_item}
use Rattle.fx_lexer.specs.Places.{place_after}

-- the token of n bytes at `at`
abbrev pub token_at : Place → ℕ → Kind → ℕ → Token
token_at place at k n = record { kind = k; line = place.line; column = place.column; from = at; upto = at + n }

-- the fault of this kind at a place
abbrev pub fault_at : Place → ℕ → LexFault
fault_at place kind = record { kind = kind; line = place.line; column = place.column }

-- the token of n bytes, where it has a kind
abbrev pub tokens_of_kind : Place → ℕ → Option Kind → ℕ → List Token
tokens_of_kind place at None n = []
tokens_of_kind place at (Some k) n = token_at place at k n ∷ []

-- the token of an item, or none
abbrev pub tokens_of : Place → ℕ → Item → List Token
tokens_of place at i = tokens_of_kind place at i.kind i.length

-- whether a statement starts after an item whose first byte is b: after a `;` token, until the next token
abbrev pub starts_after : Bool → Item → ℕ → Bool
starts_after start i b = if is_some i.kind then b == 59 else start

-- tokens before later ones
abbrev pub in_front : List Token → Result (List Token) LexFault → Result (List Token) LexFault
in_front front (Ok tokens) = Ok (front ++ tokens)
in_front front (Err fault) = Err fault

-- what follows from an item, or from a fault
abbrev pub at_item : (ℕ → LexFault) → (Item → Result (List Token) LexFault) → Result Item ℕ
    → Result (List Token) LexFault
at_item fault next (Ok i) = next i
at_item fault next (Err kind) = Err (fault kind)

-- the tokens from `at` on, where the first `skip` bytes of the rest belong to the item before it
abbrev pub lexed_from : List ℕ → ℕ → Bool → ℕ → List ℕ → Result (List Token) LexFault
lexed_from text skip start at [] = Ok []
lexed_from text (suc skip) start at (b ∷ rest) = lexed_from text skip start (at + 1) rest
lexed_from text zero start at (b ∷ rest) =
    let place = place_after (take at text) in
    at_item (fault_at place)
    (λ i. in_front (tokens_of place at i) (lexed_from text (i.length - 1) (starts_after start i b) (at + 1) rest))
    (first_item start (b ∷ rest))

-- the tokens of the text, or its first fault
unfoldable pub lexed : List ℕ → Result (List Token) LexFault
lexed text = lexed_from text 0 true 0 text

-- the fault is the text's first; want of memory is no property of the text
abbrev pub IsFirstFault : List ℕ → LexStop → Type 0
IsFirstFault text (stop.Fault fault) = lexed text ≡ Err fault
IsFirstFault text stop.NoMemory = Unit {0}
