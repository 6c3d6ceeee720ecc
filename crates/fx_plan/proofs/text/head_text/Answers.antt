use Rattle.std.proofs.Common.{rules, [], ◌∙◌, List, ℕ, ap, sym, take_all}
use Rattle.std.specs.List.{flat_map}
use Rattle.csv.specs.Records.{fields_of}
use Rattle.csv.specs.Writing.{default_writer, row_text}
use Rattle.fx_derived.specs.Tables.{TableView}
use Rattle.fx_plan.proofs.text.head_text.Goals as goal

pub returns : goal.returns
returns c =
    let names : TableView → List (List ℕ) = λ t. t.names in
    let fields =
    c.loop-part.invariant.fields ∙ ap (flat_map names)
    (take_all c.loop-part.part-index c.parts-part-items.result.now (search rules))
    ∙ sym (ap names c.parts-part-items.ensures.whole) in
    rw fields at
    (c.written.ensures (row_text default_writer (fields_of c.loop-part.row))
    (rw c.in_ok-write.was at (c.write.ensures [] (search rules))))
