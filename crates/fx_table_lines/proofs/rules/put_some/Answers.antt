use Rattle.std.proofs.Common.{◌^◌, ◌∙◌, sym, ap, length}
use Rattle.std.specs.List.{range_with_len}
use Rattle.std.proofs.lemmas.List.{length-map}
use Rattle.std.proofs.lemmas.List.FromFn.{length-range_with_len}
use Rattle.fx_vectors.specs.declared.shape.Shape.{Shape}
use Rattle.fx_table_lines.specs.Listing.{place_of, row_name}
use Rattle.fx_table_lines.proofs.rules.put_some.Goals as goal

pub put_each-requires : goal.put_each-requires
put_each-requires c =
    let shape : Shape = c.args.matrix.now.shape in
    ap length c.as_slice.ensures.value
    ∙ sym (length-map c.in_ok-units.units.items _)
    ∙ ap length (c.in_ok-units.ensures ∙ c.in_ok-names.ensures)
    ∙ length-map (range_with_len 0 shape.m) (λ j. row_name shape.s (place_of (shape.q ^ j) c.args.matrix.now.rows))
    ∙ length-range_with_len 0 shape.m
