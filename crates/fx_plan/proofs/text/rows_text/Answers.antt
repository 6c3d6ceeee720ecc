use Rattle.std.proofs.Common.{rules, ◌≡◌, ◌++◌, ◌∙◌, [], get_or, subst, ap, arith}
use Rattle.std.specs.List.{slice_range}
use Rattle.csv.specs.Records.{fields_of}
use Rattle.csv.specs.Writing.{default_writer, row_text}
use Rattle.fx_plan.specs.Tables.{HasWritten, text_of}
use Rattle.fx_plan.proofs.Lists.{range_more}
use Rattle.fx_plan.proofs.text.rows_text.Goals as goal

pub loop-i-preserved : goal.loop-i-preserved
loop-i-preserved c =
    let rows = c.args.plan.now.rows in
    let done = text_of (slice_range rows c.args.from c.loop-i.i) in
    let fields : fields_of c.put_row.new.row ≡ get_or rows c.loop-i.i [] = search rules in
    let wrote =
    rw c.in_ok-write.was at (c.write.ensures done c.loop-i.invariant) in
    subst (HasWritten c.write.new.writer)
    (ap (λ f. done ++ row_text default_writer f) fields
    ∙ range_more rows c.args.from c.loop-i.i (omega arith) (omega arith))
    wrote
