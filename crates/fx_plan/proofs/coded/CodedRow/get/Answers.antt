use Rattle.std.proofs.Common.{map, arith}
use Rattle.fx_plan.proofs.Coding.{coded_at, coded_long}
use Rattle.fx_plan.proofs.coded.CodedRow.get.Goals as goal

pub code_at-requires : goal.code_at-requires
code_at-requires c =
    let some = rw (← c.self.view_is) at c.requires in
    omega (arith, coded_long (map (λ v. v.items) c.self.inside.texts.now) c.self.inside.codes.now)

pub returns : goal.returns
returns c =
    let texts = map (λ v. v.items) c.self.inside.texts.now in
    let some = rw (← c.self.view_is) at c.requires in
    rw (← c.self.view_is)
    (cc (
      c.text_at.ensures,
      c.code_at.ensures,
      coded_at texts c.self.inside.codes.now c.args.column
          (omega (arith, coded_long texts c.self.inside.codes.now)),
    ))
