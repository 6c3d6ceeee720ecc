use Rattle.std.proofs.Common.{◌*◌, ◌%◌, ◌^◌, slice_index, arith}
use Rattle.fx_points.specs.declared.swap.TheConstants.{HALVES}
use Rattle.fx_points.proofs.Bits.{exchange}
use Rattle.fx_points.proofs.LastOnes.{shift_fits}
use Rattle.fx_points.proofs.Swaps.{half_below, lane_of, lanes_fit}
use Rattle.fx_points.proofs.lanes.swapped_words.Goals as goal

pub returns-clause-words : goal.returns-clause-words
returns-clause-words c =
    lanes_fit c.args.words (slice_index HALVES c.args.b) (1 * 2 ^ c.args.b % 2 ^ 64) c.requires.words
    (half_below c.args.b c.requires.bit)

pub returns-clause-bits : goal.returns-clause-bits
returns-clause-bits c k i hk hi =
    let b = c.args.b in
    let h = slice_index HALVES b in
    let w = slice_index c.args.words k in
    cc (
      lane_of c.args.words h (1 * 2 ^ b % 2 ^ 64) c.requires.words.len k hk,
      shift_fits b (let low = c.requires.bit in omega arith),
      exchange w b i c.requires.bit hi,
    )
