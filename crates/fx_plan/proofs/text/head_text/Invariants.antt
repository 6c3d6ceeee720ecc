use Rattle.std.proofs.Common.{◌≡◌, [], take}
use Rattle.std.specs.List.{flat_map}
use Rattle.csv.specs.Records.{fields_of, partial_of}
use Rattle.fx_derived.specs.Tables.{TableView}
use Rattle.fx_plan.proofs.text.head_text.Given as goal

abbrev pub invariant-loop-part : goal.invariant-loop-part
invariant-loop-part l = record {
  fields : fields_of l.row ≡ flat_map (λ (t : TableView). t.names) (take l.part-index l.part-items);
  partial : partial_of l.row ≡ [];
}
