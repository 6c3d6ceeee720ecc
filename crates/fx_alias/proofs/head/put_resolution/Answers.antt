use Rattle.std.proofs.Common.{◌≡◌, ◌∙◌, length, arith, ap}
use Rattle.fx_reduction.proofs.ShortWords.{pattern-length}
use Rattle.fx_vectors.specs.Shape.{dimensions_of}
use Rattle.fx_alias.proofs.head.put_resolution.Goals as goal

pub put_resolution_of-requires : goal.put_resolution_of-requires
put_resolution_of-requires c =
    let d = dimensions_of c.args.matrix.now.shape in
    let len =
    ap length c.in_ok-pattern.ensures ∙ pattern-length d c.args.matrix.now.rows in
    let s : c.shape-shape.result.s ≡ d.s = cc c.shape-shape.ensures.shape in
    omega arith

pub returns : goal.returns
returns c =
    rw c.in_ok-pattern.ensures at c.put_resolution_of.ensures
