use Rattle.std.proofs.Common.{◌≡◌, ◌+◌, ◌-◌, ◌*◌}
use Rattle.std.specs.Prelude.{max}
use Rattle.fx_strata.specs.Clear.{pairs, live_sums}
use Rattle.fx_strata.specs.Floors.{taking}
use Rattle.fx_table_book.specs.Tables.{strata_of}
use Rattle.fx_table_check.proofs.prefix.Prefix.unclear_floor.Goals as goal

pub returns : goal.returns
returns c =
    let x = strata_of c.args.self.now.base in
    let rows = c.args.self.now.rows in
    let same = c.base-base.ensures.base in
    let h =
    rw (← same) at c.effects-effects.ensures in
    let all : c.pairs-all.result ≡ pairs x.q (x.w + x.n) =
    cc (c.pairs-all.ensures.pairs, c.from.ensures) in
    let more : c.from-multiples.result * c.taking.result ≡ (x.q - 1) * taking x c.args.none rows =
    cc (c.from-multiples.ensures, c.taking.ensures.taking) in
    let less : c.from-2.result ≡ live_sums x rows =
    cc (c.from-2.ensures, c.live_sums.ensures rows h) in
    cc (c.max.ensures, c.unclear.ensures.unclear, c.saturating_sub-left.ensures)
