use Rattle.std.proofs.Common.{◌≡◌, ◌++◌, ◌∷◌, [], drop}
use Rattle.fx_designs.specs.Patterns.{is_less}
use Rattle.fx_strata.specs.Designs.{key_of}
use Rattle.fx_strata.specs.Canonical.{figures}
use Rattle.fx_table_book.specs.Tables.{strata_of, parts_of}
use Rattle.fx_table_check.proofs.prefix.Prefix.is_no_less.Given as goal

abbrev pub invariant-loop-i : goal.invariant-loop-i
invariant-loop-i l = record {
  same : l.self ≡ l.fn.self;
  less : is_less
      (drop l.i (key_of (parts_of l.parts) (figures (strata_of l.fn.self.base) (l.fn.self.rows ++ l.row ∷ []))))
      (drop l.i l.beat)
      ≡ is_less (key_of (parts_of l.parts) (figures (strata_of l.fn.self.base) (l.fn.self.rows ++ l.row ∷ []))) l.beat;
}
