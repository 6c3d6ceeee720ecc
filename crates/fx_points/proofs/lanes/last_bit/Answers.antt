use Rattle.fx_points.proofs.LastOnes.{last_bit_is}
use Rattle.fx_points.proofs.lanes.last_bit.Goals as goal

pub returns : goal.returns
returns c = last_bit_is c.args.word c.requires c.ranges.word.fits
