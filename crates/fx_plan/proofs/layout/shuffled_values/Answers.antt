use Rattle.std.proofs.Common.{◌≡◌, ◌∙◌, map}
use Rattle.std.proofs.Common.{length, ap, rules}
use Rattle.fx_plan.specs.Draws.{each_shuffled}
use Rattle.fx_plan.proofs.Fields.{written}
use Rattle.fx_plan.proofs.Kept.{lengths_shuffled}
use Rattle.fx_plan.proofs.layout.shuffled_values.Goals as goal

pub returns-then-asked-clause-lengths : goal.returns-then-asked-clause-lengths
returns-then-asked-clause-lengths c =
    let before = map (λ v. v.items) c.args.values.items in
    let pair : (map (λ v. v.items) c.shuffle_each.new.lists, c.shuffle_each.new.rng)
    ≡ each_shuffled c.args.rng.now before = search rules in
    ap (λ l. map length (map (λ v. v.items) l))
    (written c.shuffle_each.new.lists c.args.values.items c.args.values.len (search rules) (search rules))
    ∙ ap (λ p. map length p.0) pair ∙ lengths_shuffled c.args.rng.now before
