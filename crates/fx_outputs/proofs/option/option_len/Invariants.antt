use Rattle.std.proofs.Common.{◌≡◌, ◌+◌, drop}
use Rattle.fx_outputs.specs.Options.{option_len}
use Rattle.fx_outputs.proofs.option.option_len.Given as goal

abbrev pub invariant-loop-i : goal.invariant-loop-i
invariant-loop-i l = option_len l.inside l.lexemes ≡ l.i + option_len l.within (drop l.i l.lexemes)
