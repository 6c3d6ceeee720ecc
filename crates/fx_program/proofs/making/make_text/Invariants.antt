use Rattle.std.proofs.Common.{◌≡◌, ◌++◌}
use Rattle.fx_program.specs.Making.{made_text}
use Rattle.fx_program.proofs.making.make_text.Given as goal

abbrev pub invariant-loop-i : goal.invariant-loop-i
invariant-loop-i l = l.out ≡ l.fn.out ++ made_text l.i
