-- Statements as the grammar describes them.
use Rattle.std.specs.Prelude.{◌≡◌, true, List, [], ◌∷◌, ◌++◌, map}
use Rattle.std.specs.List.{AllByRecursion}
use Rattle.fx_language.specs.declared.symbol.Symbol.{Symbol}
use Rattle.fx_language.specs.declared.symbol.Symbol.TheVariants as word
use Rattle.fx_language.specs.Symbols.{is_word}
use Rattle.fx_language.specs.Shapes.{Shape, Matches}
use Rattle.fx_language.specs.Grammar as grammar
use Rattle.fx_text.specs.Names.{IsName}
use Rattle.fx_text.specs.Written.{Written, begins}

-- the symbols of what is written
abbrev pub symbols_in : List Written → List Symbol
symbols_in s = map (λ (w : Written). w.symbol) s

-- the statement, with the semicolon that ends it, is one of those that the grammar describes
abbrev pub IsStatement : Shape → List Written → Type 0
IsStatement shape s = Matches shape (symbols_in s ++ word.Semicolon ∷ [])

-- the statement is what the grammar describes for its first word
pub record IsByItsWord (s : List Written) : Type 0 where
  pub proc : begins word.Proc s ≡ true → IsStatement grammar.proc s
  pub factors : begins word.Factors s ≡ true → IsStatement grammar.factors s
  pub size : begins word.Size s ≡ true → IsStatement grammar.size s
  pub model : begins word.Model s ≡ true → IsStatement grammar.model s
  pub blocks : begins word.Blocks s ≡ true → IsStatement grammar.blocks s
  pub examine : begins word.Examine s ≡ true → IsStatement grammar.examine s
  pub output : begins word.Output s ≡ true → IsStatement grammar.output s
  pub foldover : begins word.Foldover s ≡ true → IsStatement grammar.foldover s

-- each word of it is a name of 1 to 32 bytes
abbrev pub HasNames : List Written → Type 0
HasNames s = AllByRecursion (λ w. is_word w.symbol ≡ true → IsName w.text) s

-- a statement of an accepted text
pub record IsAccepted (s : List Written) : Type 0 where
  pub by_its_word : IsByItsWord s
  pub names : HasNames s
