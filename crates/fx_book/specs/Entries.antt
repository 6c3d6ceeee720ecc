-- The entries of a book: a letter, the last row of the node, and for a `W` the parts of its word.
use Rattle.std.specs.Prelude.{ℕ, ◌^◌, ◌&&◌, nat_lt, Bool, if◌then◌else◌, List, [], ◌∷◌, ◌++◌, codes, decimal, Option}
use Rattle.std.specs.Prelude.{Some, None, Result, Ok, Err}
use Rattle.std.specs.Str.{bytes_eq}
use Rattle.fx_designs.specs.Problems.{Dimensions}
use Rattle.fx_designs.specs.Nodes as nodes
use Rattle.fx_vectors.specs.declared.mark.Mark.{Mark}
use Rattle.fx_vectors.specs.declared.mark.Mark.TheVariants.{Branch, Word, Worse}
use Rattle.fx_book.specs.declared.fault.FaultKind.{FaultKind}
use Rattle.fx_book.specs.declared.fault.FaultKind.TheVariants.{Form, Range}
use Rattle.fx_book.specs.declared.version.Version.{Version}
use Rattle.fx_book.specs.Parts.{number_of}
use Rattle.fx_book.specs.Words.{word_parts, after_blanks, word_written}

-- the line of an entry
abbrev pub entry_text : Version → Dimensions → nodes.Mark → List ℕ
entry_text version d (nodes.Branch row) = codes "O " ++ (decimal row ++ codes "\n")
entry_text version d (nodes.Word row word) =
    codes "W " ++ (decimal row ++ (after_blanks (word_parts version d word) ++ codes "\n"))
entry_text version d (nodes.Worse row) = codes "P " ++ (decimal row ++ codes "\n")

abbrev pub entries_text : Version → Dimensions → List nodes.Mark → List ℕ
entries_text version d [] = []
entries_text version d (mark ∷ marks) = entry_text version d mark ++ entries_text version d marks

-- the mark, if its row is below q^m
abbrev pub ranged : Dimensions → ℕ → Mark → Result Mark FaultKind
ranged d row mark = (if nat_lt row (d.q ^ d.m) then Ok mark else Err Range)

-- an entry of a letter and a row; a `P` may be there only where there is a pattern to beat
abbrev pub short_entry : Dimensions → Bool → List ℕ → Option ℕ → Result Mark FaultKind
short_entry d beaten letter None = Err Form
short_entry d beaten letter (Some row) =
    (if bytes_eq letter (codes "O")
    then ranged d row (Branch row)
    else (if bytes_eq letter (codes "P") && beaten then ranged d row (Worse row) else Err Form))

abbrev pub with_word : Dimensions → ℕ → Result ℕ FaultKind → Result Mark FaultKind
with_word d row (Err kind) = Err kind
with_word d row (Ok word) = ranged d row (Word row word)

-- an entry of a letter, a row and a word
abbrev pub word_entry : Dimensions → List ℕ → Option ℕ → Result ℕ FaultKind → Result Mark FaultKind
word_entry d letter None word = Err Form
word_entry d letter (Some row) word = (if bytes_eq letter (codes "W") then with_word d row word else Err Form)

-- the entry of a line's parts, or whether its form or the range of a number is wrong
abbrev pub entry_of : Version → Dimensions → Bool → List (List ℕ) → Result Mark FaultKind
entry_of version d beaten [] = Err Form
entry_of version d beaten (letter ∷ []) = Err Form
entry_of version d beaten (letter ∷ row ∷ []) = short_entry d beaten letter (number_of row)
entry_of version d beaten (letter ∷ row ∷ part ∷ parts) =
    word_entry d letter (number_of row) (word_written version d (part ∷ parts))
