use Rattle.std.proofs.Common.{ℕ, ◌≡◌, ◌<◌, ◌≤◌, ◌+◌, ◌^◌, List, slice_index}
use Rattle.std.specs.Prelude.{min}
use Rattle.fx_words.specs.Spreads.{so_far}
use Rattle.fx_table_check.specs.Effects.{AreFew, AreCounted}
use Rattle.fx_table_check.proofs.effects.add_row.Given as goal

abbrev pub invariant-loop-c : goal.invariant-loop-c
invariant-loop-c l = record {
  few : AreFew (l.sums.q ^ l.sums.m) l.counts;
  code : 1 ≤ l.c;
  counted : (rows : List ℕ) (k : ℕ)
      → AreCounted l.sums.q l.sums.m rows k l.lighter
      → AreCounted l.sums.q l.sums.m rows (k + 1) l.fn.counts
      → (y : ℕ) → y < l.sums.q ^ l.sums.m
      → slice_index l.counts y ≡ min 2 (so_far l.sums.q l.sums.m rows l.row (k + 1) y l.c);
}
