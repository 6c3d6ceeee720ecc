use Rattle.std.proofs.Common.{◌≡◌, drop}
use Rattle.fx_outputs.specs.Options.{options_of, options_behind}
use Rattle.fx_outputs.proofs.option.options_of.Given as goal

abbrev pub invariant-loop-i : goal.invariant-loop-i
invariant-loop-i l = options_of l.phrase ≡ options_behind l.options l.within (drop l.i l.phrase)
