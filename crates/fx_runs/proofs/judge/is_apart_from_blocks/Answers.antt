use Rattle.std.proofs.Common.{◌≤◌, ◌&&◌, not, eqb, length, ◌∙◌, arith}
use Rattle.fx_designs.specs.Vectors.{is_zero}
use Rattle.fx_designs.specs.Demands.{effect_of}
use Rattle.fx_vectors.proofs.Limits.{order-bounds}
use Rattle.fx_vectors.specs.declared.shape.TheConstants.{MOST_FACTORS}
use Rattle.fx_runs.specs.declared.walk.Within.TheVariants.{EachBlock}
use Rattle.fx_runs.specs.Supports.{is_among}
use Rattle.fx_runs.proofs.Walks.{each-same}
use Rattle.fx_runs.proofs.judge.is_apart_from_blocks.Goals as goal

pub returns : goal.returns
returns c =
    let valid = c.are_balanced.ensures.valid in
    let two = (order-bounds c.args.runs.now.shape.q valid.shaped.order).0 in
    c.are_balanced.ensures.balanced
    ∙ each-same c.args.runs.now EachBlock (omega arith)
    (λ f. not (is_zero f) && is_among c.of_effect.result.inner c.of_effect.result.outer c.of_effect.result.most f)
    (λ f. not (is_zero f) && eqb c.args.e (effect_of f))
    (λ f h.
    let few : length f ≤ MOST_FACTORS = omega (arith, h.len, valid.shaped.factors) in
    cc (c.of_effect.ensures f few))
