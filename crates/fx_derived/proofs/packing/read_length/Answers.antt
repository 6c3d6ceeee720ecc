use Rattle.std.proofs.Common.{◌<◌, length, arith, rules}
use Rattle.fx_derived.proofs.Packed.{sum_fits}
use Rattle.fx_derived.proofs.packing.read_length.Goals as goal

pub overflow_add-count : goal.overflow_add-count
overflow_add-count c =
    let sum = sum_fits c.args.bytes.now c.loop-i.i c.loop-i.count c.loop-i.invariant.0 c.requires (omega arith) in
    let fits : length c.args.bytes.now < 18446744073709551616 = search rules in
    omega arith
