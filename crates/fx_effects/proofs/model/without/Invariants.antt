use Rattle.std.proofs.Common.{◌≡◌, ◌++◌, drop}
use Rattle.fx_vectors.specs.Effects.{numbers_of}
use Rattle.fx_effects.specs.Models.{without}
use Rattle.fx_effects.proofs.model.without.Given as goal

abbrev pub invariant-loop-e : goal.invariant-loop-e
invariant-loop-e l =
    without (numbers_of l.estimate) (numbers_of l.effects)
    ≡ numbers_of l.others ++ without (numbers_of l.estimate) (numbers_of (drop l.e-index l.effects))
