-- Books of tables: what they claim, what their entries mean, and which are valid.
use Rattle.std.specs.Prelude.{ℕ, ◌≡◌, ◌<◌, ◌≤◌, ◌+◌, ◌-◌, ◌*◌, ◌^◌, true, false, List, length, map, All}
use Rattle.std.specs.Prelude.{Option, Some, None}
use Rattle.std.specs.Option.{option_map}
use Rattle.fx_vectors.specs.declared.shape.Shape.{Shape}
use Rattle.fx_vectors.specs.Shape.{IsShape}
use Rattle.fx_strata.specs.Designs as designs
use Rattle.fx_strata.specs.Designs.{Strata}
use Rattle.fx_strata.specs.Orders as orders
use Rattle.fx_strata.specs.Books as books
use Rattle.fx_strata.specs.Laws.{HasFactors}
use Rattle.fx_table_book.specs.declared.base.Base.{Base}
use Rattle.fx_table_book.specs.declared.order.Order.{Order}
use Rattle.fx_table_book.specs.declared.order.Order.TheVariants.{FactorsFirst, ChengWuFirst, ChengWuSecond}
use Rattle.fx_table_book.specs.declared.order.Order.TheVariants.{SitterChenFeder, MostClear}
use Rattle.fx_table_book.specs.declared.order.Part.{Part}
use Rattle.fx_table_book.specs.declared.order.Part.TheVariants.{Constant, Confounded, Unclear}
use Rattle.fx_table_book.specs.declared.book.Entry.{Entry}
use Rattle.fx_table_book.specs.declared.book.Entry.TheVariants.{Branch, Worse, Image, NoRoom, Floor}
use Rattle.fx_table_book.specs.declared.book.TableBook.{TableBook}

abbrev pub strata_of : Base → Strata
strata_of base = record { q = base.q; m = base.m; h = base.h; w = base.w; n = base.n }

abbrev pub shape_of : Base → Shape
shape_of base = record { q = base.q; m = base.m; s = base.w + base.n; t = 0 }

-- a base within the limits
pub record IsBase (base : Base) : Type 0 where
  pub shaped : IsShape (shape_of base)
  pub inside : base.h ≤ base.m
  pub few_words : base.q ^ (base.w + base.n) ≤ 2 ^ 120

-- the other factors can span what the base space lacks; the whole-plot factors, if any, can span a base space that is
-- not zero
pub record IsProper (base : Base) : Type 0 where
  pub factors : HasFactors (strata_of base)
  pub whole_plots : 0 < base.w → (0 < base.h) × (base.h ≤ base.w)

abbrev pub part_of : Part → designs.Part
part_of (Constant weight) = designs.Words false weight
part_of (Confounded weight) = designs.Words true weight
part_of Unclear = designs.Unclear

abbrev pub parts_of : List Part → designs.Order
parts_of parts = map part_of parts

-- a weight of words of at most s factors
abbrev pub IsWeight : ℕ → Part → Type 0
IsWeight s (Constant weight) = (0 < weight) × (weight ≤ s)
IsWeight s (Confounded weight) = (0 < weight) × (weight ≤ s)
IsWeight s Unclear = Unit {0}

abbrev pub order_of : Order → Strata → designs.Order
order_of FactorsFirst x = orders.factors_first x
order_of ChengWuFirst x = orders.cheng_wu_first x
order_of ChengWuSecond x = orders.cheng_wu_second x
order_of SitterChenFeder x = orders.sitter_chen_feder x
order_of MostClear x = orders.most_clear x

-- the entries of the order of a book
abbrev pub order_in : TableBook → designs.Order
order_in book = order_of book.order (strata_of book.base)

abbrev pub entry_of : Entry → books.Entry
entry_of (Branch row) = books.Branch row
entry_of (Worse row) = books.Worse row
entry_of (Image row change) = books.Image row change.items
entry_of (NoRoom row) = books.NoRoom row
entry_of (Floor row) = books.Floor row

abbrev pub entries_of : List Entry → List books.Entry
entries_of entries = map entry_of entries

-- a key, where a word and its multiples count each
abbrev pub multiplied : ℕ → List ℕ → List ℕ
multiplied q key = map (λ a. (q - 1) * a) key

-- what a book claims
abbrev pub claim_of : TableBook → books.Claim
claim_of book =
    record {
      strata = strata_of book.base;
      order = order_in book;
      beat = option_map (multiplied book.base.q) book.key;
    }

-- the row of an entry and the numbers of a change are below q^m; a change has m numbers
abbrev pub IsSmall : Base → Entry → Type 0
IsSmall base (Branch row) = row < base.q ^ base.m
IsSmall base (Worse row) = row < base.q ^ base.m
IsSmall base (Image row change) =
    (row < base.q ^ base.m) × (length change.items ≡ base.m) × All (λ a. a < base.q ^ base.m) change.items
IsSmall base (NoRoom row) = row < base.q ^ base.m
IsSmall base (Floor row) = row < base.q ^ base.m

-- a key to beat has an entry for each one of the order, below 2^127 where a word and its multiples count each
abbrev pub IsKey : ℕ → ℕ → Option (List ℕ) → Type 0
IsKey q len None = Unit {0}
IsKey q len (Some key) = (length key ≡ len) × All (λ a. (q - 1) * a < 2 ^ 127) key

-- a book that can be written and checked
pub record IsBook (book : TableBook) : Type 0 where
  pub base : IsBase book.base
  pub proper : IsProper book.base
  pub key : IsKey book.base.q (length (order_in book)) book.key
  pub entries : All (IsSmall book.base) book.entries
  pub few_entries : length book.entries ≤ 2 ^ 28
