use Rattle.std.proofs.Common.{◌≡◌, ◌++◌, ◌∷◌, [], drop}
use Rattle.fx_designs.specs.Patterns.{is_less}
use Rattle.fx_strata.specs.Floors.{floor}
use Rattle.fx_table_book.specs.Tables.{strata_of, parts_of}
use Rattle.fx_table_check.proofs.prefix.Prefix.has_high_floor.Given as goal

abbrev pub invariant-loop-i : goal.invariant-loop-i
invariant-loop-i l = record {
  same : l.self ≡ l.fn.self;
  less : is_less
      (drop l.i (floor (strata_of l.fn.self.base) (parts_of l.goal.parts) l.goal.none (l.fn.self.rows ++ l.row ∷ [])))
      (drop l.i l.beat)
      ≡ is_less (floor (strata_of l.fn.self.base) (parts_of l.goal.parts) l.goal.none (l.fn.self.rows ++ l.row ∷ []))
      l.beat;
}
