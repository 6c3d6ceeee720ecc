use Rattle.std.proofs.Common.{◌≡◌, ◌≤◌, ◌<◌, ◌+◌, ◌^◌, length}
use Rattle.fx_table_book.specs.Tables.{strata_of}
use Rattle.fx_table_check.specs.Checking.{pending}
use Rattle.fx_table_check.proofs.prefix.Prefix.next_turn.Given as goal

abbrev pub invariant-loop-k : goal.invariant-loop-k
invariant-loop-k l = record {
  base : l.self.base ≡ l.fn.self.base;
  count : length l.self.rows + 1 ≡ l.k;
  room : length l.self.rows < l.fn.self.base.w + l.fn.self.base.n;
  below : l.below ≤ l.fn.self.base.q ^ l.fn.self.base.m;
  turns : pending (strata_of l.fn.self.base) l.fn.self.rows l.fn.below
      ≡ pending (strata_of l.fn.self.base) l.self.rows l.below;
}
