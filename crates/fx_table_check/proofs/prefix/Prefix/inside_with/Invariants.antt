use Rattle.std.proofs.Common.{ℕ, ◌≡◌, ◌<◌, ◌++◌, ◌∷◌, [], slice_index, length}
use Rattle.fx_table_book.specs.Tables.{strata_of}
use Rattle.fx_table_check.specs.Counts.{confounded_at}
use Rattle.fx_table_check.proofs.prefix.Prefix.inside_with.Given as goal

abbrev pub invariant-loop-i : goal.invariant-loop-i
invariant-loop-i l = record {
  len : length l.inside ≡ 63;
  same : l.self ≡ l.fn.self;
  words : (j : ℕ) → j < l.i
      → slice_index l.inside j ≡ confounded_at (strata_of l.fn.self.base) (l.fn.self.rows ++ l.row ∷ []) j;
}
