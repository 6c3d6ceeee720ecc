use Rattle.std.proofs.Common.{◌++◌, ◌∙◌, [], sym, ap}
use Rattle.std.specs.Prelude.{codes}
use Rattle.fx_vectors.specs.Shape.{dimensions_of}
use Rattle.fx_statements.specs.Endings.{ending_by}
use Rattle.fx_statements.specs.Steps.{meaning_of}
use Rattle.fx_alias.specs.Heads.{clear_line, matrix_lines, outcome_lines}
use Rattle.fx_alias.proofs.Heads.{budget-lines, design-lines}
use Rattle.fx_components.proofs.Products.{behind}
use Rattle.fx_alias.proofs.head.put_outcome.Goals as goal

pub returns-in_ok-put_matrix-in-Design : goal.returns-in_ok-put_matrix-in-Design
returns-in_ok-put_matrix-in-Design c =
    let outcome = c.args.outcome.now in
    let step = meaning_of c.args.step.now in
    let clear = clear_line step (codes " highest") outcome.reached in
    let first =
    c.in_ok-put_matrix-in-Design.ensures ∙ ap
    (λ claim. c.args.out.now ++ matrix_lines [] claim clear outcome.matrix) c.claim_of.ensures in
    let lines =
    behind c.args.out.now _ _ _ _
    first (design-lines step outcome.shape outcome.reached outcome.matrix outcome.nodes
    (rw c.in-Design.is at outcome.whole)) in
    let e = lines ∙ ap
    (λ z. c.args.out.now
    ++ outcome_lines step (dimensions_of outcome.shape) outcome.reached (ending_by z outcome.matrix outcome.nodes))
    (sym c.in-Design.is) in
    rw e at c.put_nodes.ensures

pub returns-in_ok-put_budget-in-Budget : goal.returns-in_ok-put_budget-in-Budget
returns-in_ok-put_budget-in-Budget c =
    let outcome = c.args.outcome.now in
    let step = meaning_of c.args.step.now in
    let lines =
    behind c.args.out.now _ _
    _
    _ c.in_ok-put_budget-in-Budget.ensures
    (budget-lines step outcome.shape outcome.reached outcome.matrix outcome.nodes (rw c.in-Budget.is at outcome.whole))
    in
    let e = lines ∙ ap
    (λ z. c.args.out.now
    ++ outcome_lines step (dimensions_of outcome.shape) outcome.reached (ending_by z outcome.matrix outcome.nodes))
    (sym c.in-Budget.is) in
    rw e at c.put_matrix-in-Budget.ensures
