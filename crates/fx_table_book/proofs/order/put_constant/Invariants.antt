use Rattle.std.proofs.Common.{◌≡◌, ◌≤◌, ◌+◌, ◌++◌, [], ◌∷◌, false}
use Rattle.fx_strata.specs.Designs.{Words}
use Rattle.fx_table_book.specs.Tables.{parts_of, strata_of}
use Rattle.fx_table_book.proofs.Turns.{turns_before}
use Rattle.fx_table_book.proofs.order.put_constant.Given as goal

abbrev pub invariant-loop-k : goal.invariant-loop-k
invariant-loop-k l = record {
  from : 1 ≤ l.k;
  so_far : parts_of l.parts
      ≡ parts_of l.fn.parts ++ turns_before (strata_of l.base) (λ k. Words false (l.more + k) ∷ []) l.k;
}
