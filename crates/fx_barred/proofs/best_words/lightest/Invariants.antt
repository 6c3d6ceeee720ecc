use Rattle.std.proofs.Common.{◌≡◌, ◌<◌, ℕ, false, length}
use Rattle.fx_barred.specs.Reach.{reaches}
use Rattle.fx_barred.proofs.best_words.lightest.Given as goal

abbrev pub invariant-loop-weight : goal.invariant-loop-weight
invariant-loop-weight l =
    (k : ℕ) → k < l.weight → reaches l.reached.q l.reached.m l.reached.rows (length l.reached.rows) k l.x ≡ false
