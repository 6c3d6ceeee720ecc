use Rattle.std.proofs.Common.{rules, arith}
use Rattle.std.proofs.lemmas.List.{length-map}
use Rattle.fx_effects.proofs.Apart.{are_apart}
use Rattle.fx_effects.proofs.model.told_apart.Goals as goal

pub returns-clause-apart : goal.returns-clause-apart
returns-clause-apart c =
    are_apart c.args.field _ _
    _ c.requires.estimate c.requires.others
    c.in_ok-nonnegligible.ensures (search rules)
    (omega (arith, length-map c.args.estimate (λ e. e.0)))
    (omega (arith, length-map c.args.others.now (λ e. e.0)))
