use Rattle.std.proofs.Common.{◌≡◌, map, drop}
use Rattle.fx_program.specs.Reasons.{reason_row}
use Rattle.fx_program.specs.Messages.{listed_at}
use Rattle.fx_program.proofs.refusal.listed_at.Given as goal

abbrev pub invariant-loop-reason : goal.invariant-loop-reason
invariant-loop-reason l =
    listed_at (map reason_row l.reasons) l.code ≡ listed_at (map reason_row (drop l.reason-index l.reasons)) l.code
