use Rattle.std.proofs.Common.{Some, None}
use Rattle.std.proofs.lemmas.Bool.{false_from_ne_true}
use Rattle.fx_designs.specs.Answers.{is_design}
use Rattle.fx_laws.proofs.Tables.{is_order-field}
use Rattle.fx_tree.proofs.Firsts.{answer-is-first}
use Rattle.fx_tree.proofs.laws.least_answer_is_the_first_of_least_pattern.Goals as goal

pub returns-clause-there : goal.returns-clause-there
returns-clause-there c p rows known some least is =
    let h = answer-is-first p (is_order-field p.dimensions.q known) some least (Some rows) is in
    record { design = h.0; least = h.1; first = h.2 }

pub returns-clause-none : goal.returns-clause-none
returns-clause-none c p known some least is rows =
    false_from_ne_true (is_design p rows)
    (answer-is-first p (is_order-field p.dimensions.q known) some least None is rows)
