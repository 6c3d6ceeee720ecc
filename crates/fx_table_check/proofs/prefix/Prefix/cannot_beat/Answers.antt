use Rattle.std.proofs.Common.{ℕ, ◌++◌, [], ◌∷◌, List}
use Rattle.fx_table_book.specs.Tables.{strata_of}
use Rattle.fx_table_check.proofs.prefix.Prefix.cannot_beat.Goals as goal

pub returns-else-not-has_units_with-clause-beat : goal.returns-else-not-has_units_with-clause-beat
returns-else-not-has_units_with-clause-beat c =
    let rows : List ℕ = c.args.self.now.rows ++ c.args.row ∷ [] in
    let x = strata_of c.args.self.now.base in
    cc (c.has_high_floor.ensures.beat, c.has_units_with.ensures.same, c.as_slice.ensures, c.in-Some.is)
