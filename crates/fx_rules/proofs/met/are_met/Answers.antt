use Rattle.std.proofs.Common.{◌≡◌, ◌≤◌, ◌+◌, true, List, ℕ, [], ◌∷◌, ◌++◌, length, take, slice_index}
use Rattle.std.proofs.Common.{arith, sym, ap, ◌∙◌, take-suc}
use Rattle.std.proofs.Math.Numerals.{add-one}
use Rattle.std.proofs.lemmas.Bool.{not-false, not-true}
use Rattle.std.proofs.lemmas.List.{take_all}
use Rattle.fx_designs.specs.Demands.{is_allowed}
use Rattle.fx_designs.specs.Problems.{Problem}
use Rattle.fx_laws.proofs.Tables.{is_order-field}
use Rattle.fx_search.specs.Pruning.{is_allowed_with}
use Rattle.fx_vectors.specs.Question.{requirement_of}
use Rattle.fx_vectors.specs.Shape.{dimensions_of}
use Rattle.fx_rules.proofs.RowByRow.{barred_row, no_barred_row}
use Rattle.fx_rules.proofs.met.are_met.Goals as goal

-- what the walk so far says of a row says so of the rows of the matrix
with_row : {p q : Problem} {front : List ℕ} {row : ℕ} (rows : List ℕ) (i : ℕ) → p ≡ q → front ≡ take i rows
    → row ≡ slice_index rows i
    → is_allowed_with p front row ≡ is_allowed q.dimensions q.requirement (take i rows ++ slice_index rows i ∷ [])
with_row {p} {q} {front} {row} rows i problem prefix own =
    cc

pub returns-then-closes : goal.returns-then-closes
returns-then-closes c =
    let question = c.args.question.now in
    sym (barred_row (dimensions_of question.shape) (is_order-field question.shape.q c.requires.valid.shaped.order)
    (requirement_of question.demands) c.args.matrix.now.rows
    c.requires.given.given.whole c.loop-i.i (omega arith)
    (sym (with_row c.args.matrix.now.rows c.loop-i.i c.loop-i.invariant.0 c.loop-i.invariant.1 c.row-row.ensures.row)
    ∙ not-true _ (sym c.closes.ensures ∙ c.if-closes.true)))

pub loop-i-preserved : goal.loop-i-preserved
loop-i-preserved c =
    let rows = c.args.matrix.now.rows in
    let next : take (c.loop-i.i + 1) rows ≡ take c.loop-i.i rows ++ slice_index rows c.loop-i.i ∷ [] =
    rw (add-one c.loop-i.i) (take-suc rows c.loop-i.i 0 (omega arith)) in (
      c.push.ensures.problem ∙ c.loop-i.invariant.0,
      cc (c.in_ok-push.ensures.ok, c.loop-i.invariant.1, c.row-row.ensures.row),
      λ some. ap (is_allowed _ _) next
          ∙ sym (with_row rows c.loop-i.i c.loop-i.invariant.0 c.loop-i.invariant.1 c.row-row.ensures.row)
          ∙ not-false _ (sym c.closes.ensures ∙ c.if-closes.false),
    )

pub returns : goal.returns
returns c =
    let question = c.args.question.now in
    let rows = c.args.matrix.now.rows in
    let high : length rows ≤ c.loop-i.i = omega arith in
    sym (no_barred_row (dimensions_of question.shape) (is_order-field question.shape.q c.requires.valid.shaped.order)
    (requirement_of question.demands) rows c.requires.given.given.whole
    (rw (take_all c.loop-i.i rows high) at (c.loop-i.invariant.2 (omega arith))))
