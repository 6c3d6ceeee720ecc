use Rattle.std.proofs.Common.{◌≡◌, ◌+◌, ◌++◌, drop}
use Rattle.fx_alias.specs.Given.{block_words_text}
use Rattle.fx_alias.proofs.given.put_words.Given as goal

abbrev pub invariant-loop-i : goal.invariant-loop-i
invariant-loop-i l =
    l.out ++ block_words_text (l.i + 1) (drop l.i l.fn.words) ≡ l.fn.out ++ block_words_text 1 l.fn.words
