use Rattle.std.proofs.Common.{◌≤◌, ◌&&◌, not, length, ◌∙◌, arith}
use Rattle.fx_designs.specs.Vectors.{is_zero}
use Rattle.fx_designs.specs.Demands.{effect_of}
use Rattle.fx_vectors.proofs.Limits.{order-bounds}
use Rattle.fx_runs.specs.declared.walk.Within.TheVariants.{AllRuns}
use Rattle.fx_vectors.specs.Supports.{differs}
use Rattle.fx_vectors.specs.declared.shape.TheConstants.{MOST_FACTORS}
use Rattle.fx_runs.specs.Supports.{is_among}
use Rattle.fx_runs.proofs.Walks.{each-same}
use Rattle.fx_runs.proofs.judge.is_told_from.Goals as goal

pub returns-clause-balanced : goal.returns-clause-balanced
returns-clause-balanced c =
    let shape = c.args.runs.now.shape in
    let valid = c.are_balanced.ensures.valid in
    let two = (order-bounds shape.q valid.shaped.order).0 in
    c.are_balanced.ensures.balanced
    ∙ each-same c.args.runs.now AllRuns (omega arith)
    (λ f. not (is_zero f)
    && is_among c.of_differences.result.inner c.of_differences.result.outer c.of_differences.result.most f)
    (λ f. not (is_zero f) && differs shape.q c.args.u c.args.v (effect_of f))
    (λ f h.
    let few : length f ≤ MOST_FACTORS = omega (arith, h.len, valid.shaped.factors) in
    cc (c.of_differences.ensures f few, c.shape.ensures.shape))
