use Rattle.std.proofs.Common.{◌∙◌, arith}
use Rattle.std.proofs.lemmas.List.{at_drop_all}
use Rattle.fx_settings.specs.Rules.{first_refusal}
use Rattle.fx_settings.proofs.Rules.{all_kept}
use Rattle.fx_settings.proofs.rule.first_refusal.Goals as goal

pub returns-clause-kept : goal.returns-clause-kept
returns-clause-kept c =
    all_kept c.args.rules.now
    (c.loop-rule.invariant ∙ at_drop_all first_refusal c.args.rules.now c.loop-rule.rule-index (omega arith))
