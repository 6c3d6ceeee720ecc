use Rattle.std.proofs.Common.{sym}
use Rattle.fx_language.proofs.Places.{at_place}
use Rattle.fx_language.proofs.Steps.{end_refused, end_allowed}
use Rattle.fx_language.proofs.refusal.refused_end.Goals as goal

pub returns-in-Some : goal.returns-in-Some
returns-in-Some c =
    sym (end_allowed c.args.end _ _ c.in-Some.ensures (at_place c.in-Some.field-0))

pub returns-in-None : goal.returns-in-None
returns-in-None c =
    rw c.code.ensures (sym (end_refused c.args.end _ c.in-None.ensures))
