use Rattle.std.proofs.Common.{◌≡◌, ◌∙◌}
use Rattle.std.proofs.Common.{length, ap}
use Rattle.std.proofs.lemmas.List.FromFn.{length-map-range_with_len}
use Rattle.fx_plan.specs.Products.{picked, replicated}
use Rattle.fx_plan.proofs.layout.Layout.ordered.Goals as goal

pub returns-clause-plan : goal.returns-clause-plan
returns-clause-plan c =
    ap (λ t. picked c.args.order.items
    (replicated t c.args.self.now.inner.now c.args.self.now.outer.now)) c.in_ok-runs.ensures

pub returns-clause-there : goal.returns-clause-there
returns-clause-there c =
    let long : length c.in_ok-runs.runs.rows ≡ length c.args.self.now.runs.now.rows =
    ap (λ t. length t.rows) c.in_ok-runs.ensures ∙ length-map-range_with_len _ 0
    (length c.args.self.now.runs.now.rows) in
    rw long c.requires.there
