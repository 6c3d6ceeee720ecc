use Rattle.std.proofs.Common.{◌≡◌, ◌≢◌, ◌<◌, ◌+◌, ◌*◌, ℕ, get_or}
use Rattle.fx_designs.specs.Galois.{add, mul}
use Rattle.fx_judge.proofs.kinship.is_line.Given as goal

abbrev pub invariant-loop-b : goal.invariant-loop-b
invariant-loop-b l =
    (a k : ℕ) → a < l.field → k < l.b → a ≢ add l.field l.k (mul l.field l.c k) → get_or l.pairs (9 * a + k) 0 ≡ 0
