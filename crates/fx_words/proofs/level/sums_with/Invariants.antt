use Rattle.std.proofs.Common.{◌≡◌, slice_index}
use Rattle.fx_words.specs.Spreads.{so_far}
use Rattle.fx_words.specs.Tables.{but_last}
use Rattle.fx_words.proofs.level.sums_with.Given as goal

abbrev pub invariant-loop-c : goal.invariant-loop-c
invariant-loop-c l =
    l.count
    ≡ so_far l.prefix.shape.q l.prefix.shape.m (but_last l.prefix.rows) l.last l.i
    (slice_index l.classes.points l.place) l.c
