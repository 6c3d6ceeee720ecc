-- What the first refusal of a text is, without a word on how it is found.
use Rattle.std.specs.Prelude.{◌≡◌, ◌↔◌, ◌⊎◌, ℕ, suc, true, false, List, [], ◌∷◌, ◌++◌, take, Some, None}
use Rattle.fx_language.specs.declared.symbol.Symbol.{Symbol}
use Rattle.fx_language.specs.declared.symbol.Symbol.TheVariants.{Aberration, Aliasing, End, Examine}
use Rattle.fx_language.specs.declared.symbol.Symbol.TheVariants.{Minabs, Model, Open}
use Rattle.fx_language.specs.declared.symbol.Symbol.TheVariants.{Proc, Semicolon, Slash, Uniteffect}
use Rattle.fx_language.specs.Shapes.{Shape, Never, Empty, One, Before, Either, Many, Fault, Matches, Begins}
use Rattle.fx_language.specs.Grammar.{program}
use Rattle.fx_language.specs.Uncoded.{uncoded_program}
use Rattle.fx_language.specs.Symbols.{is, is_left_out, is_word}
use Rattle.fx_language.specs.Refusals.{options, refused}
use Rattle.std.specs.List.{Any, list_any}

-- the symbols with the end of their text
abbrev pub ended : List Symbol → List Symbol
ended symbols = symbols ++ End ∷ []

-- the symbol at i is the first with which the text begins no text of this description
pub record IsFirstRefused (a : Shape) (text : List Symbol) (i : ℕ) : Type 0 where
  pub before : Begins a (take i text)
  pub with_it : ¬ Begins a (take (suc i) text)

-- the grammar refuses a symbol exactly where it is the first with which the text begins no program
abbrev pub RefusesTheFirst : List Symbol → ℕ → Type 0
RefusesTheFirst symbols i =
    ((code : ℕ) × (refused 0 program symbols ≡ Some (code, i))) ↔ IsFirstRefused program (ended symbols) i

-- the grammar refuses no symbol exactly where the text is a program
abbrev pub AcceptsPrograms : List Symbol → Type 0
AcceptsPrograms symbols = (refused 0 program symbols ≡ None) ↔ Matches program (ended symbols)

-- the grammar with codes represents the same texts as the one without
abbrev pub HasSameTexts : List Symbol → Type 0
HasSameTexts text = Matches program text ↔ Matches uncoded_program text

-- The description names this code for a symbol after a text: the text leads to one of its faults, which has the code
-- and is of the symbol.
abbrev pub Names : ℕ → Shape → List Symbol → Symbol → Type 0
Names code Never text s = ⊥
Names code Empty text s = ⊥
Names code (One test) text s = ⊥
Names code (Before a b) text s =
    Names code a text s ⊎ ((x y : List Symbol) × Matches a x × Names code b y s × (text ≡ x ++ y))
Names code (Either a b) text s = Names code a text s ⊎ Names code b text s
Names code (Many a) text s = (x y : List Symbol) × Matches (Many a) x × Names code a y s × (text ≡ x ++ y)
Names code (Fault c test) text s = (text ≡ []) × (test s ≡ true) × (c ≡ code)

-- after the text one of the options is allowed
abbrev pub AllowsOption : Shape → List Symbol → Type 0
AllowsOption a text = Any (λ option. Begins a (text ++ option ∷ [])) options

-- the code of a symbol for which none is named: 3 for a word in the place of an option, else 2
abbrev pub IsGeneralCode : Shape → List Symbol → Symbol → ℕ → Type 0
IsGeneralCode a text s code =
    ((code ≡ 3) × (is_word s ≡ true) × AllowsOption a text)
    ⊎ ((code ≡ 2) × (is_word s ≡ true → ¬ AllowsOption a text))

-- the code of a symbol that is refused after a text: the one that the description names, and the general one where it
-- names none
abbrev pub HasItsCode : Shape → List Symbol → Symbol → ℕ → Type 0
HasItsCode a text s code = Names code a text s ⊎ (((c : ℕ) → ¬ Names c a text s) × IsGeneralCode a text s code)

-- a statement may start here: nothing precedes, or a semicolon
abbrev pub IsAtStart : List Symbol → Type 0
IsAtStart text = (text ≡ []) ⊎ ((front : List Symbol) × (text ≡ front ++ Semicolon ∷ []))

-- the next symbol is to be the word of a statement, or the procedure that PROC calls
abbrev pub AwaitsStatement : List Symbol → Type 0
AwaitsStatement text = IsAtStart text ⊎ ((front : List Symbol) × IsAtStart front × (text ≡ front ++ Proc ∷ []))

-- in a statement with this first word, after which these symbols follow
abbrev pub IsInStatement : Symbol → List Symbol → List Symbol → Type 0
IsInStatement word text rest =
    (front : List Symbol) × IsAtStart front × (text ≡ front ++ word ∷ rest) × (list_any (is Semicolon) rest ≡ false)

-- behind the MINABS of MODEL, which follows `/`, or ALIASING or ABERRATION in EXAMINE
abbrev pub IsBehindSection : List Symbol → Type 0
IsBehindSection text =
    (rest : List Symbol)
    × (IsInStatement Model text (rest ++ Slash ∷ Minabs ∷ [])
    ⊎ (IsInStatement Examine text (rest ++ Aliasing ∷ []) ⊎ IsInStatement Examine text (rest ++ Aberration ∷ [])))

-- what is left out of the language: UNITEFFECT, some words of PROC, and `(` behind a section or MINABS
abbrev pub IsLeftOut : List Symbol → Symbol → Type 0
IsLeftOut text s =
    ((is Uniteffect s ≡ true) × IsAtStart text)
    ⊎ (((is_left_out s ≡ true) × (rest : List Symbol) × IsInStatement Proc text rest)
    ⊎ ((is Open s ≡ true) × IsBehindSection text))
