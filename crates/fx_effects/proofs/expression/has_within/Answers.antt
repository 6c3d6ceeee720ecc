use Rattle.std.proofs.Common.{ap, ◌∙◌, nat_le}
use Rattle.std.specs.Prelude.{count_ones}
use Rattle.std.specs.List.{list_any}
use Rattle.fx_vectors.proofs.Effects.{any-numbers}
use Rattle.fx_effects.proofs.expression.has_within.Goals as goal

pub returns : goal.returns
returns c =
    c.is_some_within.ensures ∙ ap (list_any (λ e. nat_le (count_ones e.0) c.args.n))
    c.as_slice.ensures
    ∙ any-numbers (λ e. nat_le (count_ones e) c.args.n) c.args.stars.now
