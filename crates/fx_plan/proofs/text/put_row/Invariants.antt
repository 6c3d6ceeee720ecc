use Rattle.std.proofs.Common.{◌≡◌, ◌++◌, [], take}
use Rattle.csv.specs.Records.{fields_of, partial_of}
use Rattle.fx_plan.specs.Parts.{row_across}
use Rattle.fx_plan.proofs.text.put_row.Given as goal

abbrev pub invariant-loop-part : goal.invariant-loop-part
invariant-loop-part l = record {
  fields : fields_of l.row ≡ fields_of l.fn.row ++ row_across (take l.part-index l.part-items) l.i;
  partial : partial_of l.row ≡ [];
}
