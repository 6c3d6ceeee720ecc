use Rattle.std.proofs.Common.{ℕ, List, ◌^◌, ◌++◌, ◌∷◌, [], ◌∙◌, sym, ap, ap₂, map, arith}
use Rattle.std.specs.List.{range_with_len}
use Rattle.std.proofs.lemmas.List.FromFn.{map-range_with_len_more}
use Rattle.fx_vectors.specs.declared.shape.Shape.{Shape}
use Rattle.fx_table_lines.specs.Listing.{place_of, row_name}
use Rattle.fx_table_lines.proofs.rules.unit_names.Goals as goal

pub loop-j-preserved : goal.loop-j-preserved
loop-j-preserved c =
    let j : ℕ = c.loop-j.j in
    let shape : Shape = c.args.matrix.now.shape in
    let name : ℕ → List ℕ = λ j. row_name shape.s (place_of (shape.q ^ j) c.args.matrix.now.rows) in
    c.in_ok-push.ensures.ok
    ∙ ap (λ (l : List (List ℕ)). l ++ c.in_ok-row_name.field-0 ∷ []) c.loop-j.invariant
    ∙ ap (λ (n : List ℕ). map name (range_with_len 0 j) ++ n ∷ [])
    (c.in_ok-row_name.ensures
    ∙ ap₂ row_name (ap (λ (z : Shape). z.s) c.shape-shape.ensures.shape) c.place_of-place.ensures.place)
    ∙ sym (map-range_with_len_more name 0 j j (omega arith))
