use Rattle.std.proofs.Common.{◌≡◌, length}
use Rattle.fx_barred.specs.Keeping.{IsListedBefore}
use Rattle.fx_barred.proofs.next_vectors.NextVectors.places_before.Given as goal

abbrev pub invariant-loop-k : goal.invariant-loop-k
invariant-loop-k l = record {
  len : length l.slots.items ≡ 4096;
  listed : IsListedBefore l.self.reached.now.q l.self.reached.now.m l.self.reached.now.rows l.self.words.now (length l.self.reached.now.rows)
      l.depth l.self.start l.k l.list;
}
