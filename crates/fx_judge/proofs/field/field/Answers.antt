use Rattle.std.proofs.Common.{sym}
use Rattle.csv.proofs.RecordFacts.{field-get, field-there}
use Rattle.fx_judge.proofs.field.field.Goals as goal

pub returns-in-Some : goal.returns-in-Some
returns-in-Some c =
    sym (field-get _ c.args.i c.in-Some.field.now (sym c.in-Some.ensures.value))

pub returns-in-None : goal.returns-in-None
returns-in-None c = absurd (field-there _ c.args.i c.requires (sym c.in-None.ensures.value))
