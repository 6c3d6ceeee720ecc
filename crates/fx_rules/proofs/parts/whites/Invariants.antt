use Rattle.std.proofs.Common.{◌≡◌, ◌+◌, drop}
use Rattle.std.specs.List.{prefix_len}
use Rattle.fx_lexer.specs.Bytes.{is_white}
use Rattle.fx_rules.proofs.parts.whites.Given as goal

abbrev pub invariant-loop-i : goal.invariant-loop-i
invariant-loop-i l = l.i + prefix_len is_white (drop l.i l.text) ≡ prefix_len is_white l.text
