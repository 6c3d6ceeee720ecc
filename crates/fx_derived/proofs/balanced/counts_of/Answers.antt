use Rattle.std.proofs.Common.{ap, ◌∙◌}
use Rattle.fx_derived.proofs.LevelCounts.{levels_fit}
use Rattle.fx_derived.proofs.balanced.counts_of.Goals as goal

pub pow-levels-requires : goal.pow-levels-requires
pow-levels-requires c =
    rw (c.from.ensures ∙ ap (λ z. z.q) c.shape.ensures.shape)
    (levels_fit c.args.runs.now.shape.q _ c.shape.ensures.valid.shaped.order
    c.requires.few)
