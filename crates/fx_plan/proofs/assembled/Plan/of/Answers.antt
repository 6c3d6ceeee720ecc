use Rattle.std.proofs.Common.{◌≡◌, ◌++◌, ◌∷◌, [], List, length, rules, refl, ap, ap₂, ◌∙◌}
use Rattle.fx_derived.specs.Tables.{TableView}
use Rattle.fx_plan.specs.Parts.{side_by_side}
use Rattle.fx_plan.specs.Products.{picked}
use Rattle.fx_plan.proofs.Parts.{alone, count}
use Rattle.fx_plan.proofs.assembled.Plan.of.Goals as goal

pub returns : goal.returns
returns c =
    let t : TableView = picked c.args.order.items c.args.table in
    let only =
    c.in_ok-push.ensures.ok ∙ ap (λ (l : List TableView). l ++ t ∷ []) c.new-parts.ensures in
    let long : c.len-len.result ≡ length c.args.order.items = search rules in
    let many : c.len-len.result ≡ length t.rows = cc (count c.args.order.items c.args.table t refl) in
    ap₂ side_by_side many only ∙ alone t
