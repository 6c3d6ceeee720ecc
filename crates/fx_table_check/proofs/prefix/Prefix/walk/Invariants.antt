use Rattle.std.proofs.Common.{◌≡◌, ◌≤◌, ◌<◌, ◌+◌, ◌^◌, length, drop}
use Rattle.fx_table_book.specs.Tables.{strata_of, entries_of}
use Rattle.fx_table_check.specs.Goals.{claim_in}
use Rattle.fx_table_check.specs.Checking.{pending, first_flaw, flaw_of}
use Rattle.fx_table_check.proofs.prefix.Prefix.walk.Given as goal

abbrev pub invariant-loop-place : goal.invariant-loop-place
invariant-loop-place l = record {
  base : l.self.base ≡ l.fn.self.base;
  room : length l.self.rows < l.fn.self.base.w + l.fn.self.base.n;
  below : l.below ≤ l.fn.self.base.q ^ l.fn.self.base.m;
  flaw : first_flaw (claim_in l.fn.self.base l.goal) (pending (strata_of l.fn.self.base) l.self.rows l.below) l.place
      (drop l.place (entries_of l.entries))
      ≡ flaw_of (claim_in l.fn.self.base l.goal) (entries_of l.entries);
}
