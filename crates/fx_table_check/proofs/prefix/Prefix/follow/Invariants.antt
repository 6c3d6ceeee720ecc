use Rattle.std.proofs.Common.{◌≡◌, [], take, drop}
use Rattle.fx_strata.specs.Stages.{do_follow}
use Rattle.fx_table_book.specs.Tables.{strata_of}
use Rattle.fx_table_check.proofs.prefix.Prefix.follow.Given as goal

abbrev pub invariant-loop-row : goal.invariant-loop-row
invariant-loop-row l = record {
  base : l.self.base ≡ l.fn.self.base;
  rows : l.self.rows ≡ take l.row-index l.rows;
  follow : do_follow (strata_of l.fn.self.base) (take l.row-index l.rows) (drop l.row-index l.rows)
      ≡ do_follow (strata_of l.fn.self.base) [] l.rows;
}
