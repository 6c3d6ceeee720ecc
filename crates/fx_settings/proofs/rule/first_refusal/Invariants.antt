use Rattle.std.proofs.Common.{◌≡◌, drop}
use Rattle.fx_settings.specs.Rules.{first_refusal}
use Rattle.fx_settings.proofs.rule.first_refusal.Given as goal

abbrev pub invariant-loop-rule : goal.invariant-loop-rule
invariant-loop-rule l = first_refusal l.rules ≡ first_refusal (drop l.rule-index l.rules)
