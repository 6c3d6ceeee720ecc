use Rattle.std.proofs.Common.{◌≡◌, ◌<◌, ◌≤◌, ◌+◌, ◌*◌, ◌^◌, ℕ, length, slice_index}
use Rattle.fx_barred.specs.Places.{AreLists}
use Rattle.fx_barred.proofs.next_vectors.NextVectors.make_lists.Given as goal

abbrev pub invariant-loop-l : goal.invariant-loop-l
invariant-loop-l c = record {
  len : length c.tables ≡ length c.fn.tables;
  kept : (k : ℕ) → k < length c.self.reached.now.rows * c.self.reached.now.q ^ c.self.reached.now.m
      → slice_index c.tables k ≡ slice_index c.fn.tables k;
  lists : AreLists c.self.reached.now c.self.words.now c.lists;
  least : 4 * length c.self.reached.now.rows ≤ c.source;
  most : c.source < 4 * length c.self.reached.now.rows + c.l;
}
