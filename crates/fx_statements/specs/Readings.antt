-- That the lists of MODEL are read between the parentheses that the grammar has, and the sections of EXAMINE where it
-- has them.
use Rattle.std.specs.Prelude.{◌≡◌, ◌⊎◌, ℕ, true, false, List, [], ◌∷◌, ◌++◌, drop}
use Rattle.std.specs.List.{AllByRecursion}
use Rattle.fx_language.specs.declared.symbol.Symbol.{Symbol}
use Rattle.fx_language.specs.declared.symbol.Symbol.TheVariants as symbol
use Rattle.fx_language.specs.Symbols.{is, is_section}
use Rattle.fx_text.specs.Written.{Written}
use Rattle.fx_text.specs.Phrases.{preceding, has_symbol}
use Rattle.fx_effects.specs.Models.{first_or, lists_at, lists_of}

-- a list of effects with its word: `word = ( list )`, where no `)` is in the list
pub record HasList (written : List Written) : Type 0 where
  pub word : Written
  pub equals : Written
  pub open_ : Written
  pub list : List Written
  pub close : Written
  pub rest : List Written
  pub all : written ≡ word ∷ equals ∷ open_ ∷ list ++ close ∷ rest
  pub sign : is symbol.Equals equals.symbol ≡ true
  pub opens : is symbol.Open open_.symbol ≡ true
  pub closes : is symbol.Close close.symbol ≡ true
  pub between : has_symbol symbol.Close list ≡ false

-- what is read as the second list, after the first one: nothing where there is no `(`, or what is between its
-- parentheses
abbrev pub IsSecondRead : List Written → Type 0
IsSecondRead rest =
    ((has_symbol symbol.Open rest ≡ false) × (drop 3 rest ≡ []))
    ⊎ ((second : HasList rest) × (is symbol.Nonnegligible second.word.symbol ≡ true)
    × (preceding symbol.Close (drop 3 rest) ≡ second.list))

-- what is read from a MODEL statement with ESTIMATE
pub record IsModelRead (s : List Written) : Type 0 where
  pub model : Written
  pub parts : List Written
  pub statement : s ≡ model ∷ parts
  pub first : HasList parts
  pub word : is symbol.Estimate first.word.symbol ≡ true
  pub second : IsSecondRead first.rest
  pub read : (q : ℕ) (factors : List (List ℕ))
      → lists_of q factors s
      ≡ lists_at q factors first.word first.list (first_or first.word first.rest)
      (preceding symbol.Close (drop 3 first.rest))

-- what is read from an EXAMINE statement: its words after the first, each of which is a section
pub record AreSectionsRead (s : List Written) : Type 0 where
  pub first : Written
  pub sections : List Written
  pub statement : s ≡ first ∷ sections
  pub word : is symbol.Examine first.symbol ≡ true
  pub each : AllByRecursion (λ (w : Written). is_section w.symbol ≡ true) sections
  pub asked : (section : Symbol) → is_section section ≡ true → has_symbol section s ≡ has_symbol section sections
