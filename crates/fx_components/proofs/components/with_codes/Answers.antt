use Rattle.std.proofs.Common.{rules, length, ap, arith}
use Rattle.fx_components.proofs.Enumerating.{flat_more}
use Rattle.fx_components.proofs.components.with_codes.Goals as goal

pub loop-v-preserved : goal.loop-v-preserved
loop-v-preserved c =
    flat_more _ c.args.vectors.now
    c.loop-v.v-index c.v-item.result c.loop-v.longer c.put_codes.new.longer
    (omega (arith, ap length c.as_slice-v-items.ensures)) (search rules) c.loop-v.invariant (search rules)
