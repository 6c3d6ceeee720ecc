use Rattle.std.proofs.Common.{◌≡◌, ◌++◌, ◌∷◌, [], ◌∙◌, map, length}
use Rattle.std.proofs.Common.{ap, ap₂}
use Rattle.std.specs.List.{range_with_len}
use Rattle.fx_derived.specs.Tables.{TableView}
use Rattle.fx_outputs.specs.DerivedFactors.{free_places}
use Rattle.fx_plan.specs.Columns.{column_places}
use Rattle.fx_plan.specs.Coded.{row_codes}
use Rattle.fx_plan.specs.Tables.{coded_row}
use Rattle.fx_plan.proofs.Coding.{coded_is}
use Rattle.fx_plan.proofs.runs.runs_table.Goals as goal

pub coded_rows-requires : goal.coded_rows-requires
coded_rows-requires c =
    c.as_slice-2.ensures ∙ c.in_ok-columns.ensures
    ∙ ap₂ (λ f d. map (λ p. p ∷ []) f ++ map (λ x. x.places) d)
    (c.as_slice.ensures ∙ c.in_ok-free.ensures ∙ ap₂ free_places (ap (λ z. z.s) c.shape.ensures.shape)
    c.as_slice-derived.ensures) c.as_slice-derived.ensures

pub returns : goal.returns
returns c =
    let r = c.args.layout.now.runs.now in
    let o = c.args.layout.now.output.now in
    let values = map (λ v. v.items) c.args.values.items in
    let columns = column_places r.shape.s o.derived in
    let cols =
    c.as_slice-2.ensures ∙ c.in_ok-columns.ensures
    ∙ ap₂ (λ f d. map (λ p. p ∷ []) f ++ map (λ x. x.places) d)
    (c.as_slice.ensures ∙ c.in_ok-free.ensures ∙ ap₂ free_places (ap (λ z. z.s) c.shape.ensures.shape)
    c.as_slice-derived.ensures) c.as_slice-derived.ensures in
    let rows : map (λ x. x.items) c.in_ok-rows.rows.items
    ≡ map (row_codes r columns) (range_with_len 0 (length r.rows)) =
    cc c.in_ok-rows.ensures in
    let texts =
    c.in_ok-texts.ensures ∙ ap (λ l. l ++ values) c.in_ok-block_texts.ensures in
    c.new.ensures
    ∙ ap₂ (λ n l. let t : TableView = record { names = n; rows = l } in t)
    c.in_ok-names.ensures
    (ap (λ t. map (λ x. coded_row t x.items) c.in_ok-rows.rows.items) texts
    ∙ coded_is r c.shape.ensures.valid o.block_values columns values _ c.in_ok-rows.rows.items rows)
