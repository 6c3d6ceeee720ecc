use Rattle.std.proofs.Common.{◌≡◌, ◌+◌, ◌++◌, drop}
use Rattle.fx_alias.specs.Patterns.{words_lines}
use Rattle.fx_alias.proofs.pattern.put_words.Given as goal

abbrev pub invariant-loop-i : goal.invariant-loop-i
invariant-loop-i l = l.out ++ words_lines l.letter (l.i + 1) (drop l.i l.pattern) ≡ l.fn.out ++ words_lines l.letter 1 l.pattern
