use Rattle.std.proofs.Common.{◌≡◌, drop}
use Rattle.fx_outputs.specs.DerivedFactors.{is_bracketed}
use Rattle.fx_outputs.proofs.columns.is_bracketed.Given as goal

abbrev pub invariant-loop-factor : goal.invariant-loop-factor
invariant-loop-factor l = is_bracketed (drop l.factor-index l.derived) l.place ≡ is_bracketed l.derived l.place
