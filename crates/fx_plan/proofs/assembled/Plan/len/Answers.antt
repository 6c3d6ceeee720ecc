use Rattle.fx_plan.proofs.Parts.{long}
use Rattle.fx_plan.proofs.assembled.Plan.len.Goals as goal

pub returns : goal.returns
returns c =
    cc (long c.self.inside.len c.self.inside.parts, c.self.view_is)
