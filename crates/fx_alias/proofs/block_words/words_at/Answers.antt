use Rattle.std.proofs.Common.{◌≡◌, ◌<◌, ◌+◌, ◌^◌, ◌∙◌, ℕ, cond, length, take, refl, sym}
use Rattle.std.proofs.Common.{ap, ap₂, arith}
use Rattle.std.proofs.lemmas.List.{length-map, length-take-le}
use Rattle.fx_designs.specs.Galois.{IsField, digits}
use Rattle.fx_designs.specs.Runs.{is_constant_in_blocks}
use Rattle.fx_designs.specs.Vectors.{vectors_of}
use Rattle.fx_laws.proofs.Tables.{is_order-field}
use Rattle.fx_points.proofs.Halves.{power-some}
use Rattle.fx_points.specs.Points.{PointsView, has}
use Rattle.fx_runs.specs.Runs.{design_of}
use Rattle.fx_vectors.proofs.Limits.{words_fit}
use Rattle.fx_vectors.specs.declared.shape.Shape.{Shape}
use Rattle.fx_vectors.specs.Matrix.{MatrixView}
use Rattle.fx_words.specs.Spreads.{spread}
use Rattle.fx_alias.proofs.BlockEntries.{confounded, words_entry}
use Rattle.fx_alias.proofs.Confounded.{all_below}
use Rattle.fx_alias.proofs.Counted.{below_fits, next_below, none_below, words_below}
use Rattle.fx_alias.proofs.block_words.words_at.Goals as goal
use Rattle.fx_alias.proofs.block_words.words_at.Goals.{After-vectors_with-count}

-- the vectors of weight k that are counted below n
abbrev counted : MatrixView → PointsView → ℕ → ℕ → ℕ
counted matrix set k n =
    words_below matrix.shape.q matrix.shape.m
    (vectors_of matrix.shape.q matrix.shape.m (take matrix.shape.s matrix.rows)) (has set) k n

-- with the next sum
next : (c : After-vectors_with-count)
    → c.loop-x.count + c.vectors_with-count.result
    ≡ counted c.args.matrix.now c.args.span.now (c.args.i + 1) (c.loop-x.x + 1)
next c =
    let matrix : MatrixView = c.args.matrix.now in
    let q = matrix.shape.q in
    let m = matrix.shape.m in
    let k : ℕ = c.args.i + 1 in
    let x : ℕ = c.loop-x.x in
    ap₂ (λ a b. a + b) c.loop-x.invariant.count
    (c.vectors_with-count.ensures.count
    ∙ ap (λ t.
    cond (has c.args.span.now x) (spread t.shape.q t.shape.m (vectors_of t.shape.q t.shape.m t.rows) k x) 0)
    (c.loop-x.invariant.same ∙ c.requires.tally))
    ∙ sym (next_below q m (vectors_of q m (take matrix.shape.s matrix.rows)) (has c.args.span.now) k x
    (omega arith))

pub loop-x-init : goal.loop-x-init
loop-x-init c =
    let matrix = c.args.matrix.now in
    record {
      count =
          sym (none_below matrix.shape.q matrix.shape.m
          (vectors_of matrix.shape.q matrix.shape.m (take matrix.shape.s matrix.rows)) (has c.args.span.now)
          (c.args.i + 1));
      same = refl;
    }

pub overflow_add-count : goal.overflow_add-count
overflow_add-count c =
    let matrix = c.args.matrix.now in
    let q = matrix.shape.q in
    let m = matrix.shape.m in
    let factors = vectors_of q m (take matrix.shape.s matrix.rows) in
    let count =
    length-map (take matrix.shape.s matrix.rows) (digits q m)
    ∙ length-take-le matrix.shape.s matrix.rows (omega arith) in
    let fits =
    below_fits q m factors (has c.args.span.now) (c.args.i + 1) (c.loop-x.x + 1)
    (words_fit matrix.shape c.shape-shape.ensures.valid.shaped (length factors) (omega arith)) in
    omega (arith, next c)

pub loop-x-preserved : goal.loop-x-preserved
loop-x-preserved c = record {
  count = next (goal.at.loop-x-preserved c).After-vectors_with-count;
  same = c.vectors_with-count.ensures.same ∙ c.loop-x.invariant.same;
}

pub returns-clause-words : goal.returns-clause-words
returns-clause-words c =
    let matrix : MatrixView = c.args.matrix.now in
    let set : PointsView = c.args.span.now in
    let q : ℕ = matrix.shape.q in
    let m : ℕ = matrix.shape.m in
    let s : ℕ = matrix.shape.s in
    let k : ℕ = c.args.i + 1 in
    let f : IsField q = is_order-field q c.shape-shape.ensures.valid.shaped.order in
    let runs =
    c.runs-x-end.ensures.runs ∙ ap (λ (z : Shape). z.q ^ z.m) c.shape-shape.ensures.shape in
    let some : 0 < q ^ m = power-some q m (omega (arith, f.more_than_one)) in
    let end : c.loop-x.x ≡ q ^ m = omega (arith, runs, some, c.loop-x-test.false, c.loop-x.auto.x-end) in
    let order = c.from.ensures ∙ ap (λ (z : Shape). z.q) c.shape-shape.ensures.shape in
    let all : c.loop-x.count ≡ confounded matrix k =
    cc (
      c.loop-x.invariant.count,
      end,
      all_below q m s f matrix.rows (has set)
          (λ u. is_constant_in_blocks q s (q ^ matrix.shape.t) u (design_of matrix).rows) c.requires.span.decides
          (omega (arith, c.requires.complete)) k,
    ) in
    cc (all, order, words_entry matrix c.args.i c.requires.entry)
