use Rattle.std.proofs.Common.{◌≡◌, ◌<◌, ℕ, length, slice_index}
use Rattle.fx_barred.specs.Places.{IsListed, place_at}
use Rattle.fx_barred.proofs.next_vectors.NextVectors.places.Given as goal

abbrev pub invariant-loop-j : goal.invariant-loop-j
invariant-loop-j l = record {
  len : length l.tables ≡ length l.fn.tables;
  kept : (k : ℕ) → k < l.first → slice_index l.tables k ≡ slice_index l.fn.tables k;
  listed : IsListed l.self.reached.now.q l.self.reached.now.m l.self.reached.now.rows l.self.words.now (length l.self.reached.now.rows) l.depth
      (place_at l.source l.self.start) l.count l.j l.first l.tables l.list;
}
