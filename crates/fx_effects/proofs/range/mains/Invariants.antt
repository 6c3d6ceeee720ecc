use Rattle.std.proofs.Common.{◌≡◌, [], drop}
use Rattle.fx_text.specs.Ranges.{numbered, stem}
use Rattle.fx_vectors.specs.Effects.{numbers_of}
use Rattle.fx_demands.specs.Bars.{AreNumbers}
use Rattle.fx_effects.specs.Factors.{mains_from}
use Rattle.fx_effects.proofs.range.mains.Given as goal

abbrev pub invariant-loop-i : goal.invariant-loop-i
invariant-loop-i l = record {
  numbers : AreNumbers (numbers_of l.mains);
  mains : mains_from l.first l.factors [] (numbered (stem l.first.text) l.from l.count)
      ≡ mains_from l.first l.factors (numbers_of l.mains) (drop l.i (numbered (stem l.first.text) l.from l.count));
}
