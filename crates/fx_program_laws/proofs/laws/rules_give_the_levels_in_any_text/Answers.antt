use Rattle.fx_program.proofs.AnyText.{any_text}
use Rattle.fx_program_laws.specs.PrintedRules.{HasRulesThatGiveTheLevels}
use Rattle.fx_program_laws.proofs.PrintedRules.{printed}
use Rattle.fx_program_laws.proofs.laws.rules_give_the_levels_in_any_text.Goals as goal

pub returns : goal.returns
returns c = any_text HasRulesThatGiveTheLevels printed
