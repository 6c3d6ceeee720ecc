use Rattle.std.proofs.Common.{◌≡◌, ◌≤◌, ◌+◌, [], ◌∷◌, true, false}
use Rattle.fx_strata.specs.Designs.{Words}
use Rattle.fx_table_book.specs.Tables.{parts_of, strata_of}
use Rattle.fx_table_book.proofs.Turns.{turns_before}
use Rattle.fx_table_book.proofs.order.sitter_chen_feder.Given as goal

abbrev pub invariant-loop-k : goal.invariant-loop-k
invariant-loop-k l = record {
  from : 1 ≤ l.k;
  so_far : parts_of l.parts
      ≡ turns_before (strata_of l.base) (λ k. Words false (k + 1) ∷ Words true k ∷ []) l.k;
}
