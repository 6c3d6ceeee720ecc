use Rattle.std.proofs.Common.{◌≡◌, ◌++◌, [], take}
use Rattle.csv.specs.Records.{fields_of, partial_of}
use Rattle.fx_plan.proofs.text.put_texts.Given as goal

abbrev pub invariant-loop-i : goal.invariant-loop-i
invariant-loop-i l = record {
  fields : fields_of l.row ≡ fields_of l.fn.row ++ take l.i l.texts;
  partial : partial_of l.row ≡ [];
}
