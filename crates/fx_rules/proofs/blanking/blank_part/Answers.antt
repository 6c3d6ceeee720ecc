use Rattle.std.proofs.Common.{rules, ◌<◌, ℕ, length, arith, inl, inr, refl}
use Rattle.std.proofs.lemmas.List.{length-set}
use Rattle.fx_rules.proofs.Blanks.{from_start, in_text, next_byte, whole_part}
use Rattle.fx_rules.proofs.blanking.blank_part.Goals as goal

pub loop-i-init : goal.loop-i-init
loop-i-init c = (omega arith, inr refl, from_start c.args.part.at c.args.bytes.now, refl)

pub loop-i-preserved : goal.loop-i-preserved
loop-i-preserved c =
    let text = c.args.bytes.now in
    let i : ℕ = c.loop-i.i in
    let h = c.loop-i.invariant in
    let less = c.loop-i-test.true in
    let inside : i < length text = let e = c.min-end.ensures in omega (arith, less, e) in (
      (let a = h.0 in omega arith),
      inl (omega arith),
      next_byte c.args.part.at i c.blank_of.result text c.loop-i.bytes h.0 inside h.2 c.blank_of.ensures,
      cc (length-set c.loop-i.bytes i c.blank_of.result),
    )

pub returns : goal.returns
returns c =
    let end = c.min-end.result in
    let h = c.loop-i.invariant in
    cc (
      whole_part c.args.part.at end c.loop-i.i c.args.bytes.now h.0 h.1 (search rules),
      in_text c.args.part.at
          c.args.part.end end c.args.bytes.now c.min-end.ensures,
    )
