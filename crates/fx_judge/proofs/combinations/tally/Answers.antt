use Rattle.std.proofs.Common.{◌<◌, ◌∙◌, length, map, [], ap, arith}
use Rattle.std.proofs.lemmas.List.{length-map, get_or_read}
use Rattle.fx_judge.specs.Bases.{basic_key}
use Rattle.fx_judge.proofs.Counts.{counted_more, counted_none, value_at}
use Rattle.fx_judge.proofs.combinations.tally.Goals as goal

pub loop-k-init : goal.loop-k-init
loop-k-init c = counted_none 4096

pub loop-k-preserved : goal.loop-k-preserved
loop-k-preserved c =
    let D = c.args.differences.now in
    let key = basic_key c.args.field c.args.basic.now in
    let there : c.loop-k.k < length D = omega arith in
    let is = c.key_of.ensures.key ∙ ap key (get_or_read D c.loop-k.k c.get.result.now there c.get.ensures []) in
    counted_more 4096 (map key D) c.loop-k.counts c.loop-k.k c.key_of.result (rw (length-map D key) there)
    (cc (value_at key D c.loop-k.k [] there)) (omega arith)
    c.loop-k.invariant
