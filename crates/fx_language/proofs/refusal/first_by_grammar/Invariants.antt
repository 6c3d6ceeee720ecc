use Rattle.std.proofs.Common.{◌≡◌, drop}
use Rattle.fx_language.specs.Grammar.{program}
use Rattle.fx_language.specs.Refusals.{refused}
use Rattle.fx_language.specs.Continuations.{shape_at}
use Rattle.fx_language.proofs.refusal.first_by_grammar.Given as goal

abbrev pub invariant-loop-i : goal.invariant-loop-i
invariant-loop-i l = refused 0 program l.symbols ≡ refused l.i (shape_at l.state) (drop l.i l.symbols)
