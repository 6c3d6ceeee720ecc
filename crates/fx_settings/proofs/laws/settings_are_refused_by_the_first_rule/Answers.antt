use Rattle.fx_settings.specs.Settings.{rules, undivided, block_rules, divided}
use Rattle.fx_settings.proofs.Rules.{judged}
use Rattle.fx_settings.proofs.laws.settings_are_refused_by_the_first_rule.Goals as goal

pub returns-clause-before_effects : goal.returns-clause-before_effects
returns-clause-before_effects c = λ s said. judged (rules s said) (undivided s said)

pub returns-clause-of_blocks : goal.returns-clause-of_blocks
returns-clause-of_blocks c = λ x said. judged (block_rules x.q x.size said) (divided x said)
