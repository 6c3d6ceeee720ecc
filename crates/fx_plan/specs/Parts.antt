-- Plans that are put together of smaller tables.
use Rattle.std.specs.Prelude.{ℕ, List, [], map, slice_index_or}
use Rattle.std.specs.List.{flat_map, range_with_len}
use Rattle.fx_derived.specs.Tables.{TableView}

-- row i of tables side by side
abbrev pub row_across : List TableView → ℕ → List (List ℕ)
row_across tables i = flat_map (λ (t : TableView). slice_index_or t.rows i []) tables

-- tables of n rows side by side
abbrev pub side_by_side : ℕ → List TableView → TableView
side_by_side n tables = record {
  names = flat_map (λ (t : TableView). t.names) tables;
  rows = map (row_across tables) (range_with_len 0 n);
}
