use Rattle.std.proofs.Common.{◌≡◌, ◌+◌, drop}
use Rattle.std.specs.List.{prefix_len}
use Rattle.fx_lexer.specs.Bytes.{is_word_byte}
use Rattle.fx_rules.proofs.parts.word_bytes.Given as goal

abbrev pub invariant-loop-i : goal.invariant-loop-i
invariant-loop-i l = l.i + prefix_len is_word_byte (drop l.i l.text) ≡ prefix_len is_word_byte l.text
