-- That the items of FACTORS and FOLDOVER are read where the grammar has them.
use Rattle.std.specs.Prelude.{◌≡◌, ◌⊎◌, true, List, [], ◌∷◌, ◌++◌, Option, Some, None}
use Rattle.std.specs.List.{flat_map}
use Rattle.fx_language.specs.declared.symbol.Symbol.TheVariants.{Minus, Slash}
use Rattle.fx_language.specs.Symbols.{is, is_word}
use Rattle.fx_language.specs.Shapes.{Matches}
use Rattle.fx_language.specs.Grammar as grammar
use Rattle.fx_text.specs.Sentences.{symbols_in}
use Rattle.fx_text.specs.Written.{Written, begins}
use Rattle.fx_settings.specs.Items.{Item, items_behind, items_of}

-- a name alone, or the first and the last name of a range with `-` between them
abbrev pub IsWrittenAs : List Written → Written → Option Written → Type 0
IsWrittenAs written first None = written ≡ first ∷ []
IsWrittenAs written first (Some last) =
    (minus : Written) × (is Minus minus.symbol ≡ true) × (is_word last.symbol ≡ true)
    × (written ≡ first ∷ minus ∷ last ∷ [])

-- an item of the grammar, as it is written
abbrev pub IsItem : List Written → Item → Type 0
IsItem written item =
    Matches grammar.item (symbols_in written) × (is_word item.first.symbol ≡ true)
    × IsWrittenAs written item.first item.last

-- items as they are written, one for each
abbrev pub AreItems : List (List Written) → List Item → Type 0
AreItems [] [] = Unit {0}
AreItems (written ∷ rest) (item ∷ items) = IsItem written item × AreItems rest items
AreItems _ _ = ⊥

-- what is read from a FACTORS statement: its items, after its first word and up to its options, which begin with `/`
pub record AreItemsRead (s : List Written) : Type 0 where
  pub word : Written
  pub written : List (List Written)
  pub options : List Written
  pub statement : s ≡ word ∷ flat_map (λ part. part) written ++ options
  pub items : AreItems written (items_of s)
  pub behind : (options ≡ []) ⊎ (begins Slash options ≡ true)

-- what is read from a FOLDOVER statement: its items, which are all that follows its first word
pub record AreFoldedItemsRead (s : List Written) : Type 0 where
  pub word : Written
  pub written : List (List Written)
  pub statement : s ≡ word ∷ flat_map (λ part. part) written
  pub items : AreItems written (items_behind s)
