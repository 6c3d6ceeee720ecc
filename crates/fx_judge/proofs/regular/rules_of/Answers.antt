use Rattle.std.proofs.Common.{arith}
use Rattle.std.proofs.lemmas.Bool.{both_ways}
use Rattle.fx_vectors.proofs.Limits.{order-bounds}
use Rattle.fx_judge.proofs.Regulars.{each_fits, even_within, none_if_uneven, rules_if_even, rules_over}
use Rattle.fx_judge.proofs.regular.rules_of.Goals as goal

pub are_even-requires-clause-each : goal.are_even-requires-clause-each
are_even-requires-clause-each c =
    let found = c.in_ok-differences in
    each_fits c.args.plan.now c.field.ensures.valid c.field.result found.field-0.basic.items found.field-0.differences
    c.field.ensures.field found.ensures.basic found.ensures.differences

pub are_even-requires-clause-fit : goal.are_even-requires-clause-fit
are_even-requires-clause-fit c =
    let found = c.in_ok-differences in
    even_within c.args.plan.now c.field.ensures.valid c.field.result found.field-0.basic.items found.field-0.differences
    c.field.ensures.field found.ensures.basic found.ensures.differences

pub returns-then-are_even-clause-rules : goal.returns-then-are_even-clause-rules
returns-then-are_even-clause-rules c =
    let found = c.in_ok-differences in
    rules_if_even c.args.plan.now c.field.ensures.valid c.field.result found.field-0.basic.items
    found.field-0.differences c.field.ensures.field found.ensures.basic found.ensures.differences found.field-0.rules
    found.ensures.rules (c.are_even.ensures.0 c.if-are_even.true)

pub returns-then-are_even-clause-each : goal.returns-then-are_even-clause-each
returns-then-are_even-clause-each c =
    rw c.in_ok-differences.ensures.rules
    (rules_over c.args.plan.now.q _ c.args.plan.now.rows
    (omega (arith, order-bounds c.args.plan.now.q c.field.ensures.valid.order)))

pub returns-clause-rules : goal.returns-clause-rules
returns-clause-rules c =
    let found = c.in_ok-differences in
    none_if_uneven c.args.plan.now c.field.ensures.valid c.field.result found.field-0.basic.items
    found.field-0.differences c.field.ensures.field found.ensures.basic found.ensures.differences
    (λ e. both_ways _ c.if-are_even.false (c.are_even.ensures.1 e))
