use Rattle.std.proofs.Common.{sym}
use Rattle.fx_plan.proofs.Coding.{coded_long}
use Rattle.fx_plan.proofs.coded.CodedRow.len.Goals as goal

pub returns : goal.returns
returns c = rw (← c.self.view_is) (sym (coded_long _ c.self.inside.codes.now))
