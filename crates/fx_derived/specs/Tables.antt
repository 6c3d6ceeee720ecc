-- Tables of texts, and tables that are crossed.
use Rattle.std.specs.Prelude.{ℕ, ◌≡◌, Bool, if◌then◌else◌, List, ◌++◌, length, map, All}
use Rattle.std.specs.List.{flat_map}

-- what clauses see of a table: the names of its columns, and its rows, each with a text for every column
pub record TableView : Type 0 where
  pub names : List (List ℕ)
  pub rows : List (List (List ℕ))

-- each row has as many texts as there are columns
pub record IsTable (table : TableView) : Type 0 where
  pub each : All (λ row. length row ≡ length table.names) table.rows

-- each item of one list with each of another, the second changing fastest
abbrev pub pairs : {X Y Z : Type 0} → (X → Y → Z) → List X → List Y → List Z
pairs pair xs ys = flat_map (λ x. map (λ y. pair x y) ys) xs

-- the columns of both tables, and a row for each row of the one with each of the other: the named row changes fastest
-- where `inner` is set, and slowest where it is not
abbrev pub crossed : Bool → TableView → TableView → TableView
crossed inner rows named = record {
  names = rows.names ++ named.names;
  rows =
      if inner
      then pairs (λ x y. x ++ y) rows.rows named.rows
      else pairs (λ y x. x ++ y) named.rows rows.rows;
}
