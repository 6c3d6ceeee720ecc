use Rattle.std.proofs.Common.{rules, ◌≡◌, [], get_or, take_all}
use Rattle.fx_plan.specs.Parts.{row_across}
use Rattle.fx_plan.proofs.Parts.{across}
use Rattle.fx_plan.proofs.text.put_row.Goals as goal

pub returns-clause-fields : goal.returns-clause-fields
returns-clause-fields c =
    let parts = c.parts-part-items.result.now in
    let row : row_across parts c.args.i ≡ get_or c.args.plan.now.rows c.args.i [] =
    cc (c.parts-part-items.ensures.whole, across _ parts c.args.i c.requires.there) in
    cc (c.loop-part.invariant.fields, take_all c.loop-part.part-index parts (search rules))
