use Rattle.std.proofs.Common.{◌≡◌, take}
use Rattle.fx_alias.specs.BlockWords.{with_room}
use Rattle.fx_alias.proofs.block_words.factor_tally.Given as goal

abbrev pub invariant-loop-i : goal.invariant-loop-i
invariant-loop-i l = l.tally ≡ record { shape = with_room l.matrix.shape; rows = take l.i l.matrix.rows }
