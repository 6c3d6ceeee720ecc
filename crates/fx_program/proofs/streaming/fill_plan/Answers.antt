use Rattle.std.proofs.Common.{arith, ◌-◌, ◌≡◌, ◌++◌, List, ℕ, take, drop, sym, ap, subst, ◌∙◌, append_assoc}
use Rattle.std.proofs.lemmas.List.{take-append-drop}
use Rattle.std.proofs.lemmas.Grind.{flat_map-append}
use Rattle.fx_derived.specs.Tables.{TableView}
use Rattle.fx_plan.specs.Tables.{text_of, text_of_table}
use Rattle.fx_program.specs.Outside.{Fills, shelf_view}
use Rattle.fx_program.proofs.Filling.{filled_first, filled_none, filled_stopped, filled_then, so_far_of}
use Rattle.fx_program.proofs.streaming.fill_plan.Goals as goal

-- the head line with some first rows, and all others
whole : (t : TableView) (first : ℕ) (head text : List ℕ)
    → head ++ text_of t.rows ≡ text_of_table t → text ≡ head ++ text_of (take first t.rows)
    → text ++ text_of (drop first t.rows) ≡ text_of_table t
whole t first head text is made =
    ap (λ (l : List ℕ). l ++ text_of (drop first t.rows)) made
    ∙ append_assoc head (text_of (take first t.rows)) (text_of (drop first t.rows))
    ∙ ap (λ (l : List ℕ). head ++ l)
    (sym (flat_map-append _ (take first t.rows) (drop first t.rows)) ∙ ap text_of (take-append-drop first t.rows))
    ∙ is

pub returns-in_err-text : goal.returns-in_err-text
returns-in_err-text g c =
    filled_stopped (text_of_table c.args.plan.now) (filled_none _ c.requires) c.from_residual.result
    c.from_residual.ensures.1

pub returns-in_err-rows : goal.returns-in_err-rows
returns-in_err-rows g c =
    filled_stopped (text_of_table c.args.plan.now) (filled_none _ c.requires) c.from_residual-in_err-rows.result
    c.from_residual-in_err-rows.ensures.1

pub returns-in_err-put : goal.returns-in_err-put
returns-in_err-put g c =
    filled_stopped (text_of_table c.args.plan.now) (filled_none _ c.requires) c.from_residual-in_err-put.result
    c.from_residual-in_err-put.ensures.1

pub returns-in_err-fill : goal.returns-in_err-fill
returns-in_err-fill g c =
    let t : TableView = c.args.plan.now in
    let first : ℕ = c.min-first.result in
    let head : List ℕ = c.in_ok-text.text in
    let is : head ++ text_of t.rows ≡ text_of_table t = ap (λ (l : List ℕ). l ++ text_of t.rows) c.in_ok-text.ensures in
    let some : first - 0 ≡ first = omega arith in
    let rows : c.as_slice.result.now ≡ text_of (take first t.rows) =
    c.as_slice.ensures ∙ c.in_ok-rows.ensures ∙ ap (λ (n : ℕ). text_of (take n t.rows)) some in
    let text : c.as_slice-2.result.now ≡ head ++ text_of (take first t.rows) =
    c.as_slice-2.ensures ∙ c.in_ok-put.ensures.ok ∙ ap (λ (l : List ℕ). head ++ l) rows in
    let ended = c.from_residual-in_err-fill.result in
    subst (λ (l : List ℕ). Fills l (shelf_view g.F.Shelf c.args.shelf.now) (shelf_view g.F.Shelf c.fill.new.shelf) ended)
    (whole t first head c.as_slice-2.result.now is text)
    (filled_first (text_of (drop first t.rows)) c.in_err-fill.field-0.0 c.in_err-fill.ensures ended
    c.from_residual-in_err-fill.ensures.1)

pub returns : goal.returns
returns g c =
    let t : TableView = c.args.plan.now in
    let first : ℕ = c.min-first.result in
    let head : List ℕ = c.in_ok-text.text in
    let is : head ++ text_of t.rows ≡ text_of_table t = ap (λ (l : List ℕ). l ++ text_of t.rows) c.in_ok-text.ensures in
    let some : first - 0 ≡ first = omega arith in
    let rows : c.as_slice.result.now ≡ text_of (take first t.rows) =
    c.as_slice.ensures ∙ c.in_ok-rows.ensures ∙ ap (λ (n : ℕ). text_of (take n t.rows)) some in
    let text : c.as_slice-2.result.now ≡ head ++ text_of (take first t.rows) =
    c.as_slice-2.ensures ∙ c.in_ok-put.ensures.ok ∙ ap (λ (l : List ℕ). head ++ l) rows in
    subst (λ (l : List ℕ). Fills l (shelf_view g.F.Shelf c.args.shelf.now) (shelf_view g.F.Shelf c.fill_rows.new.shelf)
    c.fill_rows.result)
    (whole t first head c.as_slice-2.result.now is text)
    (filled_then (so_far_of c.in_ok-fill.ensures) c.fill_rows.ensures)
