use Rattle.std.proofs.Common.{◌≡◌, ◌-◌, length, map, take, Some}
use Rattle.fx_strata.specs.Designs as designs
use Rattle.fx_strata.specs.Canonical.{figures}
use Rattle.fx_table_book.specs.Tables.{strata_of, parts_of, multiplied, IsKey}
use Rattle.fx_table_check.proofs.prefix.Prefix.key.Given as goal

abbrev pub invariant-loop-part : goal.invariant-loop-part
invariant-loop-part l = record {
  base : l.self.base ≡ l.fn.self.base;
  rows : l.self.rows ≡ take (length l.fn.self.rows - 1) l.fn.self.rows;
  key : multiplied l.fn.self.base.q l.key
      ≡ map (designs.part_of (figures (strata_of l.fn.self.base) l.fn.self.rows))
      (parts_of (take l.part-index l.parts));
  valid : IsKey l.fn.self.base.q l.part-index (Some l.key);
}
