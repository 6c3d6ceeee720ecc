use Rattle.std.proofs.Common.{◌≡◌, length, arith}
use Rattle.std.proofs.lemmas.List.FromFn.{length-map-range_with_len}
use Rattle.fx_alias.specs.Rules.{block_name}
use Rattle.fx_alias.proofs.rules.put_section.Goals as goal

pub put_rules-requires : goal.put_rules-requires
put_rules-requires c =
    let t = c.shape.result.t in
    let blocks : length c.in_ok-blocks.blocks ≡ t =
    cc (c.in_ok-blocks.ensures, length-map-range_with_len block_name 1 t) in
    let same : t ≡ c.args.matrix.now.shape.t = cc c.shape.ensures.shape in
    omega arith
