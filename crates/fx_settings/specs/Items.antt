-- The items of a FACTORS or a FOLDOVER statement.
use Rattle.std.specs.Prelude.{ℕ, Bool, true, ◌||◌, List, [], ◌∷◌, Option, Some, None, if◌then◌else◌}
use Rattle.fx_language.specs.declared.symbol.Symbol.TheVariants.{Slash, Minus}
use Rattle.fx_language.specs.Symbols.{is}
use Rattle.fx_text.specs.Written.{Written}
use Rattle.fx_text.specs.Phrases.{preceding}
use Rattle.fx_text.specs.Ranges.{is_range, names_between, range_end}

-- a name, or the first and the last name of a range
pub record Item : Type 0 where
  pub first : Written
  pub last : Option Written

-- an item by its parts
abbrev pub item_of : Written → Option Written → Item
item_of first last = record { first = first; last = last }

-- the item that begins behind `before`: none does with `-` or after it
abbrev pub item_behind : Written → List Written → Option Item
item_behind before [] = None
item_behind before (w ∷ rest) =
    if is Minus before.symbol || is Minus w.symbol then None else Some (item_of w (range_end rest))

-- with one item more, where there is one
abbrev pub with_item : Option Item → List Item → List Item
with_item None items = items
with_item (Some item) items = item ∷ items

-- the items behind the first word, in order; each symbol has one in front of it
abbrev pub items_behind : List Written → List Item
items_behind [] = []
items_behind (before ∷ rest) = with_item (item_behind before rest) (items_behind rest)

-- the items of a FACTORS statement
abbrev pub items_of : List Written → List Item
items_of statement = items_behind (preceding Slash statement)

-- one name is regular, and a range has to be one
abbrev pub is_regular_from : Written → Option Written → Bool
is_regular_from first None = true
is_regular_from first (Some last) = is_range first.text last.text

-- whether an item can represent names
abbrev pub is_regular : Item → Bool
is_regular item_of = is_regular_from item_of.first item_of.last

-- one name, or those of a range
abbrev pub names_from : Written → Option Written → List (List ℕ)
names_from first None = first.text ∷ []
names_from first (Some last) = names_between first.text last.text

-- the names that an item represents
abbrev pub names_of : Item → List (List ℕ)
names_of item_of = names_from item_of.first item_of.last
