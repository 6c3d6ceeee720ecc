use Rattle.std.proofs.Common.{◌≡◌, ◌-◌, suc, arith}
use Rattle.fx_derived.specs.Texts.{ArePacked}
use Rattle.fx_derived.proofs.Packed.{length-unpacked, others_packed, text_fits}
use Rattle.fx_derived.proofs.row.Row.pop_front.Goals as goal
use Rattle.fx_derived.proofs.row.Row.pop_front.Goals.{After-self}

one_more : (c : After-self) → c.self.inside.len ≡ suc (c.self.inside.len - 1)
one_more c =
    let some = rw (← c.self.view_is) at c.requires in
    omega (arith, length-unpacked c.self.inside.len c.self.inside.bytes.now)

are_packed : (c : After-self) → ArePacked (suc (c.self.inside.len - 1)) c.self.inside.bytes.now
are_packed c = rw (one_more c) at c.self.invariant

pub unpack_first-requires : goal.unpack_first-requires
unpack_first-requires c =
    text_fits _ c.self.inside.bytes.now (are_packed (goal.at.unpack_first-requires c).After-self)

pub invariant_of-self : goal.invariant_of-self
invariant_of-self c =
    rw c.unpack_first.ensures.others
    (others_packed _ c.self.inside.bytes.now (are_packed (goal.at.invariant_of-self c).After-self))

pub returns : goal.returns
returns c =
    rw (← c.self.view_is, c.unpack_first.ensures.others, c.unpack_first.ensures.text)
    (cc (one_more (goal.at.returns c).After-self))
