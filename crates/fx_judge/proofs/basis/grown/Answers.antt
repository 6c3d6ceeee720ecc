use Rattle.std.proofs.Common.{◌<◌, [], ◌∙◌, length, arith}
use Rattle.std.proofs.lemmas.List.{get_or_read, take_all, take_more}
use Rattle.fx_judge.specs.Bases.{grown}
use Rattle.fx_judge.proofs.Stepping.{grown_entry, grown_length}
use Rattle.fx_judge.proofs.basis.grown.Goals as goal

pub loop-k-preserved : goal.loop-k-preserved
loop-k-preserved c =
    let q = c.args.field in
    let rows = c.args.rows.now in
    let e = c.args.e.now in
    let low : c.loop-k.k < length rows = omega arith in
    let entry =
    grown_entry q rows e c.changed.result c.get.result.now c.args.i c.loop-k.k low
    (get_or_read rows c.loop-k.k c.get.result.now low c.get.ensures []) c.changed.ensures.same
    c.changed.ensures.other in
    cc (
      c.in_ok-push.ensures.ok,
      c.loop-k.invariant,
      take_more (grown q rows e c.args.i) c.loop-k.k []
          (omega (arith, grown_length q rows e c.args.i)),
    )

pub returns : goal.returns
returns c =
    c.loop-k.invariant ∙ take_all c.loop-k.k (grown c.args.field c.args.rows.now c.args.e.now c.args.i)
    (omega (arith, grown_length c.args.field c.args.rows.now c.args.e.now c.args.i))
