use Rattle.std.proofs.Common.{◌+◌, ◌-◌, ◌∙◌, length, drop, refl}
use Rattle.std.proofs.Common.{arith}
use Rattle.std.proofs.lemmas.List.{length-drop, take_all}
use Rattle.fx_judge.specs.Columns.{paired}
use Rattle.fx_judge.specs.Listing.{pairs_in}
use Rattle.fx_judge.specs.Plans.{plan_components}
use Rattle.fx_judge.proofs.Columns.{kinds_left, lines_left, pairs_at}
use Rattle.fx_judge.proofs.pairs.judge_pairs.Goals as goal

pub loop-i-preserved : goal.loop-i-preserved
loop-i-preserved c =
    let columns = c.in_ok-columns.columns in
    let components = plan_components c.args.plan.now in
    let later = drop (c.loop-i.i + 1) columns in
    let added = paired c.get.result.now later in
    let is = pairs_at columns components c.loop-i.i c.get.result.now later c.in_ok-columns.ensures.components
    (omega arith) c.get.ensures refl
    in
    let rest = pairs_in (drop (c.loop-i.i + 1) components) in
    let whole =
    take_all (length columns - (c.loop-i.i + 1)) later (omega (arith, length-drop (c.loop-i.i + 1) columns)) in
    let has =
    rw whole at (rw c.as_slice.ensures at c.in_ok-put_pairs.ensures) in
    record {
      kinds = kinds_left c.args.plan.now added rest _ c.loop-i.pairs c.put_pairs.new.pairs has is
          ∙ c.loop-i.invariant.kinds;
      lines = lines_left c.args.plan.now added rest _ c.loop-i.pairs c.put_pairs.new.pairs has is
          ∙ c.loop-i.invariant.lines;
    }
