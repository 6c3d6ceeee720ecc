use Rattle.std.proofs.Common.{[], ◌∷◌, length, ap, arith}
use Rattle.fx_derived.proofs.Packed.{are_joined, count_fits, joined}
use Rattle.fx_derived.proofs.texts.Texts.push.Goals as goal

pub overflow_add-self : goal.overflow_add-self
overflow_add-self c =
    let fits =
    count_fits _ _ (are_joined c.self.inside.len c.self.inside.bytes.items c.self.invariant (c.args.text.now ∷ []))
    in
    omega
    (arith, ap length c.in_ok-pack.ensures.ok)

pub invariant_of-self-2 : goal.invariant_of-self-2
invariant_of-self-2 c =
    rw c.in_ok-pack.ensures.ok
    (are_joined c.self.inside.len c.self.inside.bytes.items c.self.invariant (c.args.text.now ∷ []))

pub returns-clause-ok : goal.returns-clause-ok
returns-clause-ok c =
    rw (← c.self.view_is, c.in_ok-pack.ensures.ok)
    (joined c.self.inside.len c.self.inside.bytes.items c.self.invariant _)
