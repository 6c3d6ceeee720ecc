use Rattle.std.proofs.Common.{◌≡◌, drop}
use Rattle.fx_outputs.specs.Options.{option_of}
use Rattle.fx_outputs.proofs.option.option_of.Given as goal

abbrev pub invariant-loop-option : goal.invariant-loop-option
invariant-loop-option l = option_of l.word l.options ≡ option_of l.word (drop l.option-index l.options)
