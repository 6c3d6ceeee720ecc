-- Words of the command line: a fault at one, the number that one writes, the value of an option.
use Rattle.std.specs.Prelude.{ℕ, nat_le, ◌&&◌, Bool, List, if◌then◌else◌, Option, Some, None, Result, Ok, Err}
use Rattle.std.specs.Prelude.{take, drop, length}
use Rattle.std.specs.List.{list_all}
use Rattle.std.specs.Str.{bytes_eq}
use Rattle.std.specs.Str.Parse.{digits_value}
use Rattle.fx_designs.specs.Galois.{is_order}
use Rattle.fx_lexer.specs.Bytes.{is_digit}
use Rattle.fx_program.specs.declared.word_fault.WordFault.{WordFault}
use Rattle.fx_program.specs.declared.word_fault.WordFaultKind.{WordFaultKind}
use Rattle.fx_program.specs.declared.word_fault.WordFaultKind.TheVariants.{NoWord, UnknownCommand, UnknownOption}
use Rattle.fx_program.specs.declared.word_fault.WordFaultKind.TheVariants.{InvalidNumber, RepeatedOption, MissingNumber}

-- the number by which messages name a fault: 1 for C1
abbrev pub code_of : WordFaultKind → ℕ
code_of NoWord = 1
code_of UnknownCommand = 2
code_of UnknownOption = 3
code_of InvalidNumber = 4
code_of RepeatedOption = 5
code_of MissingNumber = 6

-- this fault at a word
abbrev pub word_fault : {T : Type 0} → WordFaultKind → ℕ → Result T WordFault
word_fault kind word = Err (record { kind = kind; word = word })

-- what follows this beginning of a word, where the word begins so
abbrev pub after_prefix : List ℕ → List ℕ → Option (List ℕ)
after_prefix front word = if bytes_eq (take (length front) word) front then Some (drop (length front) word) else None

-- 1 to 20 decimal digits
abbrev pub is_decimal : List ℕ → Bool
is_decimal digits = list_all is_digit digits && nat_le 1 (length digits) && nat_le (length digits) 20

-- the number that these digits write, within these limits
abbrev pub within : ℕ → ℕ → List ℕ → Option ℕ
within low high digits =
    if is_decimal digits && (nat_le low (digits_value 10 digits) && nat_le (digits_value 10 digits) high)
    then Some (digits_value 10 digits) else None

-- the value of an option of the word at this place, or a fault where there is none
abbrev pub value_or_fault : {T : Type 0} → ℕ → Option T → Result T WordFault
value_or_fault place None = word_fault InvalidNumber place
value_or_fault place (Some n) = Ok n

-- the number of the word at this place, within these limits
abbrev pub number_at : ℕ → ℕ → ℕ → List ℕ → Result ℕ WordFault
number_at place low high word = value_or_fault place (within low high word)

-- the value of an option of the word at this place, or a fault where the option had a value before
abbrev pub once : {T : Type 0} → ℕ → Option T → Option T → Result T WordFault
once place (Some earlier) value = word_fault RepeatedOption place
once place None value = value_or_fault place value

-- the number of levels that these digits write: one of the seven that there are
abbrev pub order_of : List ℕ → Option ℕ
order_of digits =
    if is_decimal digits && is_order (digits_value 10 digits) then Some (digits_value 10 digits) else None

-- the number of levels of the word at this place
abbrev pub order_at : ℕ → List ℕ → Result ℕ WordFault
order_at place word = value_or_fault place (order_of word)
