use Rattle.std.proofs.Common.{◌∙◌}
use Rattle.fx_language.proofs.Places.{at_place}
use Rattle.fx_language.proofs.Steps.{next_refused, next_allowed}
use Rattle.fx_language.proofs.refusal.first_by_grammar.Goals as goal

pub returns-in-None : goal.returns-in-None
returns-in-None c =
    rw c.code.ensures
    (cc (c.loop-i.invariant, (next_refused c.args.symbols.now c.loop-i.i c.loop-i-test.true _ c.in-None.ensures)))

pub loop-i-preserved : goal.loop-i-preserved
loop-i-preserved c =
    c.loop-i.invariant
    ∙ next_allowed c.args.symbols.now c.loop-i.i c.loop-i-test.true _ _
    c.in-Some.ensures (at_place c.in-Some.next)
