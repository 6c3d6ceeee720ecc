use Rattle.std.proofs.Common.{◌≡◌, ◌++◌, ◌∷◌, [], ◌∙◌}
use Rattle.std.proofs.Common.{rules}
use Rattle.std.specs.Prelude.{decimal}
use Rattle.fx_plan.proofs.Lists.{numbers_more}
use Rattle.fx_plan.proofs.columns.numbers.Goals as goal

pub loop-k-preserved : goal.loop-k-preserved
loop-k-preserved c =
    let pushed : c.push.new.values.items ≡ c.loop-k.values.items ++ decimal c.loop-k.k ∷ [] = search rules in
    pushed ∙ rw c.loop-k.invariant (numbers_more decimal c.loop-k.k)
