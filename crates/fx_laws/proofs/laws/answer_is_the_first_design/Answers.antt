use Rattle.fx_laws.proofs.FirstDesign.{answer-first, first-answer, none-design}
use Rattle.fx_laws.proofs.laws.answer_is_the_first_design.Goals as goal

pub returns-clause-there : goal.returns-clause-there
returns-clause-there c p rows plain h = answer-first p plain rows h

pub returns-clause-first : goal.returns-clause-first
returns-clause-first c p rows plain some first = first-answer p plain some rows first

pub returns-clause-none : goal.returns-clause-none
returns-clause-none c p plain some none rows = none-design p plain some none rows
