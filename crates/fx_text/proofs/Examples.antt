-- Names, numbers and ranges, and texts with their statements and steps.
use Rattle.std.proofs.Common.{◌≡◌, ℕ, true, false, List, [], ◌∷◌, ◌++◌, map, Some, None, Result, Ok, Err, refl, arith}
use Rattle.std.specs.Prelude.{codes, replicate}
use Rattle.std.specs.Fmt.{digits}
use Rattle.fx_lexer.specs.declared.token.Token.{Token}
use Rattle.fx_lexer.specs.declared.token.LexFault.{LexFault}
use Rattle.fx_lexer.specs.Lexing.{lexed}
use Rattle.fx_language.specs.declared.symbol.Symbol.{Symbol}
use Rattle.fx_language.specs.declared.symbol.Symbol.TheVariants.{Close, Decimal, Model, Name, Size, Whole}
use Rattle.fx_text.specs.Names.{IsName, is_same_name, place_of}
use Rattle.fx_text.specs.Numbers.{IsNumber, number_of}
use Rattle.fx_text.specs.Phrases.{after, has_symbol, preceding, start_of}
use Rattle.fx_text.specs.Ranges.{is_range, names_between, range_end}
use Rattle.fx_text.specs.Refusals.{refusal_at}
use Rattle.fx_text.specs.Statements.{statement_of, statements_of, steps_of}
use Rattle.fx_text.specs.Written.{Written, written}

-- names are the same without regard to case
same_names :
    (is_same_name (codes "Day_1z") (codes "dAY_1Z") ≡ true)
    × (is_same_name (codes "day") (codes "days") ≡ false)
    × (is_same_name (codes "day1") (codes "day_") ≡ false)
    × (place_of (codes "b") (codes "A" ∷ codes "B" ∷ codes "b" ∷ []) ≡ Some 1)
    × (place_of (codes "c") (codes "A" ∷ codes "B" ∷ []) ≡ None)
same_names = (refl, refl, refl, refl, refl)

-- a name has 1 to 32 letters, digits and underscores
longest_name : IsName (replicate 31 97 ++ codes "_") × IsName (codes "7")
longest_name = ((omega arith, omega arith, refl), (omega arith, omega arith, refl))

no_name : IsName [] → ⊥
no_name h = omega (arith, h.0)

long_name : IsName (replicate 33 97) → ⊥
long_name h = omega (arith, h.1)

other_byte : IsName (codes "a-b") → ⊥
other_byte h = cc h.2

-- a number has 1 to 38 digits
longest_number : IsNumber (replicate 38 57) × IsNumber (codes "0")
longest_number = ((refl, omega arith, omega arith), (refl, omega arith, omega arith))

no_number : IsNumber [] → ⊥
no_number h = omega (arith, h.1)

long_number : IsNumber (replicate 39 57) → ⊥
long_number h = omega (arith, h.2)

no_digit : IsNumber (codes "1.5") → ⊥
no_digit h = cc h.0

abbrev word : Symbol → List ℕ → Written
word symbol text = record { symbol = symbol; text = text; line = 3; column = 7 }

numbers :
    (number_of (word Whole (codes "120")) ≡ Some 120)
    × (number_of (word Whole (codes "007")) ≡ Some 7)
    × (number_of (word Decimal (codes "1.5")) ≡ None)
    × (number_of (word Name (codes "x")) ≡ None)
numbers = (refl, refl, refl, refl)

refused : refusal_at 5 (word Name (codes "x")) ≡ record { code = 5; line = 3; column = 7 }
refused = refl

-- the same stem, and numbers without a leading zero of which the first is not above the last
ranges :
    (is_range (codes "X2") (codes "x10") ≡ true)
    × (is_range (codes "X2") (codes "X2") ≡ true)
    × (is_range (codes "a1b0") (codes "a1b1") ≡ true)
    × (is_range (codes "X3") (codes "X2") ≡ false)
    × (is_range (codes "X02") (codes "X3") ≡ false)
    × (is_range (codes "X2") (codes "X03") ≡ false)
    × (is_range (codes "X2") (codes "Y3") ≡ false)
    × (is_range (codes "X") (codes "X3") ≡ false)
    × (is_range (codes "X2") (codes "X") ≡ false)
    × (is_range (codes "2") (codes "3") ≡ false)
ranges = (refl, refl, refl, refl, refl, refl, refl, refl, refl, refl)

-- numbers of 38 digits
long_ranges :
    (is_range (codes "X1") (codes "X" ++ replicate 38 57) ≡ true)
    × (is_range (codes "X1") (codes "X" ++ replicate 39 57) ≡ false)
long_ranges = (refl, refl)

between :
    (names_between (codes "X9") (codes "x11") ≡ codes "X9" ∷ codes "X10" ∷ codes "X11" ∷ [])
    × (names_between (codes "a1b0") (codes "A1B0") ≡ codes "a1b0" ∷ [])
unfolding digits
between = (refl, refl)

among : List ℕ → Result (List Token) LexFault → List Written
among text (Ok tokens) = written text tokens
among text (Err fault) = []

-- what is written in a text
read : List ℕ → List Written
unfolding lexed among
read text = among text (lexed text)

abbrev texts : List Written → List (List ℕ)
texts s = map (λ (w : Written). w.text) s

-- a statement ends at its semicolon, the last one at the end; between two semicolons there is an empty one
statements :
    (map texts (statements_of (read (codes "run;;b 2 ;c")))
    ≡ (codes "run" ∷ []) ∷ [] ∷ (codes "b" ∷ codes "2" ∷ []) ∷ (codes "c" ∷ []) ∷ [])
    × (statements_of (read (codes " /* no */")) ≡ [])
unfolding read
statements = (refl, refl)

-- a step begins with PROC, and ends before the next one, before QUIT, or at the end
steps :
    map (map texts) (steps_of (statements_of (read (codes "a;proc x;b;proc;run;quit;c;"))))
    ≡ ((codes "proc" ∷ codes "x" ∷ []) ∷ (codes "b" ∷ []) ∷ [])
    ∷ ((codes "proc" ∷ []) ∷ (codes "run" ∷ []) ∷ [])
    ∷ []
unfolding read
steps = refl

-- the first statement of its word
first_of_a_word :
    (statement_of Size (statements_of (read (codes "run;size 1;size 2;"))) ≡ Some (read (codes "    size 1")))
    × (statement_of Model (statements_of (read (codes "run;size 1;"))) ≡ None)
unfolding read
first_of_a_word = (refl, refl)

-- what is in front of the first `)`, and behind it
phrases :
    (texts (preceding Close (read (codes "a b)c)d"))) ≡ codes "a" ∷ codes "b" ∷ [])
    × (texts (after Close (read (codes "a b)c)d"))) ≡ codes "c" ∷ codes ")" ∷ codes "d" ∷ [])
    × (texts (preceding Close (read (codes "a b"))) ≡ codes "a" ∷ codes "b" ∷ [])
    × (after Close (read (codes "a b")) ≡ [])
    × (has_symbol Close (read (codes "a )")) ≡ true)
    × (has_symbol Close (read (codes "a")) ≡ false)
    × (start_of (read (codes "\n  a b")) ≡ record { line = 2; column = 3 })
    × (start_of [] ≡ record { line = 1; column = 1 })
unfolding read
phrases = (refl, refl, refl, refl, refl, refl, refl, refl)

ends :
    (range_end (read (codes "-b c")) ≡ Some (record { symbol = Name; text = codes "b"; line = 1; column = 2 }))
    × (range_end (read (codes "b-c")) ≡ None)
    × (range_end (read (codes "-")) ≡ None)
    × (range_end [] ≡ None)
unfolding read
ends = (refl, refl, refl, refl)
