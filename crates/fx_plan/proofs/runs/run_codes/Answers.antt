use Rattle.std.proofs.Common.{◌==◌, ◌∷◌, [], ℕ, List}
use Rattle.std.proofs.Common.{arith, if◌then◌else◌, take_all}
use Rattle.fx_vectors.proofs.Limits.{order-bounds}
use Rattle.fx_runs.specs.RunBlocks.{block_of, run_at}
use Rattle.fx_derived.specs.Codes.{derived_level}
use Rattle.fx_plan.proofs.Fitting.{column_at}
use Rattle.fx_plan.proofs.Lists.{behind_more}
use Rattle.fx_plan.proofs.runs.run_codes.Goals as goal

pub put_level-requires-clause-places : goal.put_level-requires-clause-places
put_level-requires-clause-places c =
    let r = c.args.layout.now.runs.now in
    let at = column_at r.shape.q r.shape.s c.args.layout.now.output.now.derived c.args.columns.now c.loop-i.i
    c.index-columns-i.result (order-bounds r.shape.q c.shape-known.ensures.valid.shaped.order).1
    c.args.layout.now.planned.derived c.requires.columns (omega arith)
    c.index-columns-i.is in
    rw c.as_slice.ensures at.places

pub put_level-requires-clause-levels : goal.put_level-requires-clause-levels
put_level-requires-clause-levels c =
    let r = c.args.layout.now.runs.now in
    let at = column_at r.shape.q r.shape.s c.args.layout.now.output.now.derived c.args.columns.now c.loop-i.i
    c.index-columns-i.result (order-bounds r.shape.q c.shape-known.ensures.valid.shaped.order).1
    c.args.layout.now.planned.derived c.requires.columns (omega arith)
    c.index-columns-i.is in
    rw c.as_slice.ensures at.levels

pub loop-i-preserved : goal.loop-i-preserved
loop-i-preserved c =
    let r = c.args.layout.now.runs.now in
    let code : List ℕ → ℕ = λ places. derived_level r.shape.q places (run_at r c.args.k) in
    cc (
      c.in_ok-put_level.ensures,
      c.loop-i.invariant,
      c.as_slice.ensures,
      c.index-columns-i.is,
      behind_more
          (if r.shape.t == 0 then [] else block_of r c.args.k ∷ []) code c.args.columns.now c.loop-i.i
          c.index-columns-i.result (omega arith),
    )

pub returns : goal.returns
returns c =
    let r = c.args.layout.now.runs.now in
    let code : List ℕ → ℕ = λ places. derived_level r.shape.q places (run_at r c.args.k) in
    let block : List ℕ = if r.shape.t == 0 then [] else block_of r c.args.k ∷ [] in
    cc (c.loop-i.invariant, take_all c.loop-i.i c.args.columns.now (omega arith))
