-- The word of an entry: a vector over all rows that is not zero. In a book of the first version it is written by its
-- number. In one of the second it is written by its nonzero entries, as `3:1` for 1 at place 3, where they are at most
-- eight, and else by its number after a `#`.
use Rattle.std.specs.Prelude.{ℕ, ◌==◌, ◌+◌, ◌-◌, ◌*◌, ◌^◌, ◌&&◌, not, nat_lt, nat_le, zero, suc, Bool, true, false}
use Rattle.std.specs.Prelude.{if◌then◌else◌, List, [], ◌∷◌, ◌++◌, map, take, drop, codes, decimal, Option, Some, None}
use Rattle.std.specs.Prelude.{Result, Ok, Err}
use Rattle.std.specs.Str.{bytes_eq}
use Rattle.fx_designs.specs.Galois.{digits}
use Rattle.fx_designs.specs.Problems.{Dimensions}
use Rattle.fx_designs.specs.Vectors.{weight}
use Rattle.fx_book.specs.declared.fault.FaultKind.{FaultKind}
use Rattle.fx_book.specs.declared.fault.FaultKind.TheVariants.{Form, Range}
use Rattle.fx_book.specs.declared.version.Version.{Version}
use Rattle.fx_book.specs.declared.version.Version.TheVariants.{First, Second}
use Rattle.fx_book.specs.Parts.{split, number_of}

-- the vector over all rows with this number
abbrev pub vector_of : Dimensions → ℕ → List ℕ
vector_of d word = digits d.q (d.s + d.t) word

-- its nonzero entries: their places, of which the first is this one, and what is there
abbrev pub entries_from : ℕ → List ℕ → List (ℕ × ℕ)
entries_from place [] = []
entries_from place (code ∷ v) =
    (if code == 0 then entries_from (place + 1) v else (place, code) ∷ entries_from (place + 1) v)

-- the number of the vector with these entries, and zeros at all other places
abbrev pub number_with : ℕ → List (ℕ × ℕ) → ℕ
number_with q [] = 0
number_with q (e ∷ entries) = e.1 * q ^ (e.0 - 1) + number_with q entries

-- whether a word has at most eight nonzero entries
abbrev pub is_short : Dimensions → ℕ → Bool
is_short d word = nat_le (weight (vector_of d word)) 8

abbrev pub entry_part : (ℕ × ℕ) → List ℕ
entry_part e = decimal e.0 ++ (codes ":" ++ decimal e.1)

-- the parts by which a word is written
abbrev pub word_parts : Version → Dimensions → ℕ → List (List ℕ)
word_parts First d word = decimal word ∷ []
word_parts Second d word =
    (if is_short d word then map entry_part (entries_from 1 (vector_of d word)) else (codes "#" ++ decimal word) ∷ [])

-- a blank before each part
abbrev pub after_blanks : List (List ℕ) → List ℕ
after_blanks [] = []
after_blanks (part ∷ parts) = codes " " ++ (part ++ after_blanks parts)

abbrev pub both : Option ℕ → Option ℕ → Option (ℕ × ℕ)
both None code = None
both (Some place) None = None
both (Some place) (Some code) = Some (place, code)

-- two numbers, and a colon between them
abbrev pub entry_from : List (List ℕ) → Option (ℕ × ℕ)
entry_from [] = None
entry_from (place ∷ []) = None
entry_from (place ∷ code ∷ []) = both (number_of place) (number_of code)
entry_from (place ∷ code ∷ other ∷ others) = None

abbrev pub with_entry : Option (ℕ × ℕ) → Option (List (ℕ × ℕ)) → Option (List (ℕ × ℕ))
with_entry None entries = None
with_entry (Some e) None = None
with_entry (Some e) (Some entries) = Some (e ∷ entries)

-- the entries that the parts write
abbrev pub entries_of_parts : List (List ℕ) → Option (List (ℕ × ℕ))
entries_of_parts [] = Some []
entries_of_parts (part ∷ parts) = with_entry (entry_from (split 58 part)) (entries_of_parts parts)

-- a nonzero code at a place of a row after this place
abbrev pub is_entry_after : Dimensions → ℕ → (ℕ × ℕ) → Bool
is_entry_after d last e = nat_lt last e.0 && (nat_le e.0 (d.s + d.t) && (nat_lt 0 e.1 && nat_lt e.1 d.q))

-- at most `room` entries, at places that rise and come after this one
abbrev pub are_entries_after : Dimensions → ℕ → ℕ → List (ℕ × ℕ) → Bool
are_entries_after d last room [] = true
are_entries_after d last zero (e ∷ entries) = false
are_entries_after d last (suc room) (e ∷ entries) = is_entry_after d last e && are_entries_after d e.0 room entries

-- the number of a word by its entries, of which there are one to eight
abbrev pub by_entries : Dimensions → Option (List (ℕ × ℕ)) → Result ℕ FaultKind
by_entries d None = Err Form
by_entries d (Some entries) = (if are_entries_after d 0 8 entries then Ok (number_with d.q entries) else Err Range)

-- a number that is within some range
abbrev pub by_number : (ℕ → Bool) → Option ℕ → Result ℕ FaultKind
by_number within None = Err Form
by_number within (Some word) = (if within word then Ok word else Err Range)

abbrev pub is_word_number : Dimensions → ℕ → Bool
is_word_number d word = nat_lt 0 word && nat_lt word (d.q ^ (d.s + d.t))

abbrev pub is_long_word : Dimensions → ℕ → Bool
is_long_word d word = is_word_number d word && not (is_short d word)

-- the number of the word that the parts write, or whether their form or the range of a number is wrong
abbrev pub word_written : Version → Dimensions → List (List ℕ) → Result ℕ FaultKind
word_written version d [] = Err Form
word_written First d (part ∷ []) = by_number (is_word_number d) (number_of part)
word_written First d (part ∷ other ∷ others) = Err Form
word_written Second d (part ∷ []) =
    (if bytes_eq (take 1 part) (codes "#")
    then by_number (is_long_word d) (number_of (drop 1 part)) else by_entries d (entries_of_parts (part ∷ [])))
word_written Second d (part ∷ other ∷ others) = by_entries d (entries_of_parts (part ∷ other ∷ others))
