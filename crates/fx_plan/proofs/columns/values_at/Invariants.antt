use Rattle.std.proofs.Common.{◌≡◌, drop}
use Rattle.fx_plan.specs.Plans.{values_at}
use Rattle.fx_plan.proofs.columns.values_at.Given as goal

abbrev pub invariant-loop-recode : goal.invariant-loop-recode
invariant-loop-recode l = values_at l.q (drop l.recode-index l.recodes) l.place ≡ values_at l.q l.recodes l.place
