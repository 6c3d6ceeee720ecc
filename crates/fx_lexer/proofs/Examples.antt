-- Texts with their tokens or their fault.
use Rattle.std.proofs.Common.{◌≡◌, ℕ, List, [], ◌∷◌, ◌++◌, Result, Ok, Err, refl}
use Rattle.std.specs.Prelude.{codes, replicate}
use Rattle.fx_lexer.specs.declared.token.Kind.{Kind}
use Rattle.fx_lexer.specs.declared.token.Kind.TheVariants.{Word, Whole, Decimal, Quoted, Sign}
use Rattle.fx_lexer.specs.declared.token.Token.{Token}
use Rattle.fx_lexer.specs.declared.token.LexFault.{LexFault}
use Rattle.fx_lexer.specs.Lexing.{lexed}

abbrev token : Kind → ℕ → ℕ → ℕ → ℕ → Token
token k line column from upto = record { kind = k; line = line; column = column; from = from; upto = upto }

abbrev fault : ℕ → ℕ → ℕ → Result (List Token) LexFault
fault kind line column = Err (record { kind = kind; line = line; column = column })

-- comments are no tokens, and `*` is a comment only where a statement starts
comments : lexed (codes "a=1.5;*x;/*y*/.5")
    ≡ Ok (token Word 1 1 0 1 ∷ token Sign 1 2 1 2 ∷ token Decimal 1 3 2 5 ∷ token Sign 1 6 5 6
    ∷ token Decimal 1 15 14 16 ∷ [])
unfolding lexed
comments = refl

-- a statement still starts after a comment
two_remarks : lexed (codes "*a;*b; c*d") ≡ Ok (token Word 1 8 7 8 ∷ token Sign 1 9 8 9 ∷ token Word 1 10 9 10 ∷ [])
unfolding lexed
two_remarks = refl

open_quote : lexed (codes "proc factex;" ++ 10 ∷ codes "factors A 'b") ≡ fault 2 2 11
unfolding lexed
open_quote = refl

-- a doubled quote belongs to the inside
three_quotes : lexed (codes "'''") ≡ fault 2 1 1
unfolding lexed
three_quotes = refl

four_quotes : lexed (codes "''''") ≡ Ok (token Quoted 1 1 0 4 ∷ [])
unfolding lexed
four_quotes = refl

other_quote : lexed (codes "'\"'\"'\"") ≡ Ok (token Quoted 1 1 0 3 ∷ token Quoted 1 4 3 6 ∷ [])
unfolding lexed
other_quote = refl

-- one `*` doesn't open a comment and close it
shared_star : lexed (codes "a /*/") ≡ fault 1 1 3
unfolding lexed
shared_star = refl

shortest_comment : lexed (codes "/**/") ≡ Ok []
unfolding lexed
shortest_comment = refl

-- a point needs a digit after it
last_point : lexed (codes "1.") ≡ fault 3 1 2
unfolding lexed
last_point = refl

two_points : lexed (codes "1.5.5x") ≡ Ok (token Decimal 1 1 0 3 ∷ token Decimal 1 4 3 5 ∷ token Word 1 6 5 6 ∷ [])
unfolding lexed
two_points = refl

-- blank, tab, line feed and carriage return are white space, and no other byte is
white_space : lexed (9 ∷ 13 ∷ 10 ∷ codes " a") ≡ Ok (token Word 2 2 4 5 ∷ [])
unfolding lexed
white_space = refl

not_white :
    (lexed (11 ∷ []) ≡ fault 3 1 1)
    × (lexed (12 ∷ []) ≡ fault 3 1 1)
    × (lexed (0 ∷ []) ≡ fault 3 1 1)
    × (lexed (160 ∷ []) ≡ fault 3 1 1)
unfolding lexed
not_white = (refl, refl, refl, refl)

-- the eleven signs, of which `*` stands elsewhere than where a statement starts
signs : lexed (codes "a*;=()[]/|@-")
    ≡ Ok (token Word 1 1 0 1 ∷ token Sign 1 2 1 2 ∷ token Sign 1 3 2 3 ∷ token Sign 1 4 3 4 ∷ token Sign 1 5 4 5
    ∷ token Sign 1 6 5 6 ∷ token Sign 1 7 6 7 ∷ token Sign 1 8 7 8 ∷ token Sign 1 9 8 9 ∷ token Sign 1 10 9 10
    ∷ token Sign 1 11 10 11 ∷ token Sign 1 12 11 12 ∷ [])
unfolding lexed
signs = refl

-- a comma joins no names, and no other sign begins a token
no_signs :
    (lexed (codes "A,B") ≡ fault 3 1 2)
    × (lexed (codes "$A") ≡ fault 3 1 1)
    × (lexed (codes "A.B") ≡ fault 3 1 2)
    × (lexed (codes "A&B") ≡ fault 3 1 2)
    × (lexed (codes "A:B") ≡ fault 3 1 2)
    × (lexed (codes "A+B") ≡ fault 3 1 2)
    × (lexed (codes "A%") ≡ fault 3 1 2)
unfolding lexed
no_signs = (refl, refl, refl, refl, refl, refl, refl)

-- a word begins with a letter or `_` and goes on with digits too; a number ends before a letter
words_and_numbers :
    (lexed (codes "_a1Z") ≡ Ok (token Word 1 1 0 4 ∷ []))
    × (lexed (codes "2a") ≡ Ok (token Whole 1 1 0 1 ∷ token Word 1 2 1 2 ∷ []))
    × (lexed (codes "a-1") ≡ Ok (token Word 1 1 0 1 ∷ token Sign 1 2 1 2 ∷ token Whole 1 3 2 3 ∷ []))
unfolding lexed
words_and_numbers = (refl, refl, refl)

-- at most 32 bytes in a word, and 38 in a number, its point included
lengths :
    (lexed (replicate 32 97) ≡ Ok (token Word 1 1 0 32 ∷ []))
    × (lexed (replicate 33 97) ≡ fault 5 1 1)
    × (lexed (replicate 38 48) ≡ Ok (token Whole 1 1 0 38 ∷ []))
    × (lexed (replicate 39 48) ≡ fault 4 1 1)
    × (lexed (replicate 36 48 ++ codes ".5") ≡ Ok (token Decimal 1 1 0 38 ∷ []))
    × (lexed (replicate 37 48 ++ codes ".5") ≡ fault 4 1 1)
unfolding lexed
lengths = (refl, refl, refl, refl, refl, refl)

-- lines and columns go on inside comments and quoted texts
lines_inside :
    (lexed (codes "/*" ++ 10 ∷ codes "*/a") ≡ Ok (token Word 2 3 5 6 ∷ []))
    × (lexed (codes "'" ++ 10 ∷ codes "'a") ≡ Ok (token Quoted 1 1 0 3 ∷ token Word 2 2 3 4 ∷ []))
unfolding lexed
lines_inside = (refl, refl)
