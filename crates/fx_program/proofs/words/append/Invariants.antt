use Rattle.std.proofs.Common.{◌≡◌, ◌++◌, take}
use Rattle.fx_program.proofs.words.append.Given as goal

abbrev pub invariant-loop-byte : goal.invariant-loop-byte
invariant-loop-byte g l = l.line.items ≡ l.initial.line.items ++ take l.byte-index l.bytes
