use Rattle.std.proofs.Common.{◌≡◌, ◌<◌, ◌+◌, ◌*◌, ℕ, get_or}
use Rattle.fx_judge.proofs.kinship.are_expected.Given as goal

abbrev pub invariant-loop-a : goal.invariant-loop-a
invariant-loop-a l =
    (a b : ℕ) → a < l.a → b < l.q → l.runs * get_or l.pairs (9 * a + b) 0 ≡ get_or l.left a 0 * get_or l.right b 0

abbrev pub invariant-loop-b : goal.invariant-loop-b
invariant-loop-b l = record {
  before : (a b : ℕ) → a < l.a → b < l.q
      → l.runs * get_or l.pairs (9 * a + b) 0 ≡ get_or l.left a 0 * get_or l.right b 0;
  here : (b : ℕ) → b < l.b → l.runs * get_or l.pairs (9 * l.a + b) 0 ≡ get_or l.left l.a 0 * get_or l.right b 0;
}
