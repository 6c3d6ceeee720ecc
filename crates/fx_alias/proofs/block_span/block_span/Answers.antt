use Rattle.std.proofs.Common.{rules, ◌≡◌, ◌^◌, subst}
use Rattle.fx_laws.proofs.Tables.{is_order-field}
use Rattle.fx_alias.specs.BlockSpans.{HasSums}
use Rattle.fx_alias.proofs.BlockSums.{all_sums, next_sum}
use Rattle.fx_alias.proofs.block_span.block_span.Goals as goal

pub loop-place-preserved : goal.loop-place-preserved
loop-place-preserved c =
    next_sum c.args.matrix.now (is_order-field c.args.matrix.now.shape.q c.shape-shape.ensures.valid.shaped.order)
    c.shape-shape.ensures.valid.shaped.runs c.loop-place.place
    c.loop-place.span c.insert.new.self c.loop-place.invariant
    (λ y low. cc (c.insert.ensures.added y low, c.block_sum.ensures.sum))

pub returns : goal.returns
returns c =
    let all : c.loop-place.place ≡ c.args.matrix.now.shape.q ^ c.args.matrix.now.shape.t = search rules in
    all_sums c.args.matrix.now (is_order-field c.args.matrix.now.shape.q c.shape-shape.ensures.valid.shaped.order)
    c.shape-shape.ensures.valid.shaped.runs c.loop-place.span
    c.requires.complete
    (subst (HasSums c.args.matrix.now c.loop-place.span) all c.loop-place.invariant)
