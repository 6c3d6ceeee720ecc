-- The key of rows that are those of a design.
use Rattle.std.specs.Prelude.{ℕ, ◌≡◌, true, false, List, Option, Some, None}
use Rattle.fx_designs.specs.Vectors.{vectors_of}
use Rattle.fx_strata.specs.Designs.{Strata, Order, key_of, IsLeast}
use Rattle.fx_strata.specs.Canonical.{base, figures}
use Rattle.fx_strata.specs.Stages.{is_design}
use Rattle.fx_strata.specs.Books.{Entry, is_good}
use Rattle.fx_table_book.specs.Tables.{multiplied}

-- the key of rows, where a word and its multiples count as one, if they are those of a canonical design
abbrev pub IsKeyOf : Strata → Order → List ℕ → Option (List ℕ) → Type 0
IsKeyOf x order rows None = is_design x rows ≡ false
IsKeyOf x order rows (Some key) =
    (is_design x rows ≡ true) × (multiplied x.q key ≡ key_of order (figures x rows))

-- where a good book has it as the key to beat, the rows are a design of least key
abbrev pub IsLeastOf : Strata → Order → List ℕ → Option (List ℕ) → Type 0
IsLeastOf x order rows None = Unit {0}
IsLeastOf x order rows (Some key) = (entries : List Entry)
    → is_good (record { strata = x; order = order; beat = Some (multiplied x.q key) }) entries ≡ true
    → IsLeast x order (base x) (vectors_of x.q x.m rows)
