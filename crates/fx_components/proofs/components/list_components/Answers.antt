use Rattle.std.proofs.Common.{rules, ◌≡◌, ◌+◌, ◌++◌, [], ◌∙◌, All, subst, sym, ap₂}
use Rattle.fx_designs.specs.Components.{components}
use Rattle.fx_designs.specs.Vectors.{IsVector}
use Rattle.fx_components.proofs.Enumerating.{begun_with, next_weight, components-vectors}
use Rattle.fx_components.proofs.components.list_components.Goals as goal

pub loop-k-preserved : goal.loop-k-preserved
loop-k-preserved c =
    let none : c.new.result.items ≡ [] = search rules in
    c.in_ok-put_from.ensures ∙ ap₂
    (λ a chosen. a ++ begun_with c.args.q chosen (c.loop-k.k + 1) c.args.s)
    c.loop-k.invariant none
    ∙ next_weight c.args.q c.args.s c.loop-k.k

pub returns-clause-each : goal.returns-clause-each
returns-clause-each c =
    let all : c.loop-k.found ≡ components c.args.q c.args.s c.args.most = search rules in
    subst (All (IsVector c.args.q c.args.s)) (sym all)
    (components-vectors c.args.q c.args.s c.args.most c.requires.levels)
