use Rattle.std.proofs.Common.{◌≡◌, ◌++◌, [], take}
use Rattle.csv.specs.Records.{fields_of, partial_of}
use Rattle.fx_plan.proofs.text.put_names.Given as goal

abbrev pub invariant-loop-name : goal.invariant-loop-name
invariant-loop-name l = record {
  fields : fields_of l.row ≡ fields_of l.fn.row ++ take l.name-index l.names;
  partial : partial_of l.row ≡ [];
}
