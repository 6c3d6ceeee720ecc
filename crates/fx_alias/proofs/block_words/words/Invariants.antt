use Rattle.std.proofs.Common.{◌≡◌, take}
use Rattle.fx_alias.specs.BlockWords.{block_words_of}
use Rattle.fx_alias.proofs.block_words.words.Given as goal

abbrev pub invariant-loop-i : goal.invariant-loop-i
invariant-loop-i l = record {
  words : l.words ≡ take l.i (block_words_of l.matrix);
  same : l.tally ≡ l.fn.tally;
}
