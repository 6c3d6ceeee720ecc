use Rattle.std.proofs.Common.{◌≡◌, false, map, take}
use Rattle.fx_alias.proofs.marks.unmarked.Given as goal

abbrev pub invariant-loop-u : goal.invariant-loop-u
invariant-loop-u l = l.found ≡ map (λ u. false) (take l._u-index l.components)
