use Rattle.std.proofs.Common.{◌∙◌, arith}
use Rattle.fx_alias.proofs.Heads.{no-words}
use Rattle.fx_alias.proofs.head.put_resolution_of.Goals as goal

pub returns-then-from-len : goal.returns-then-from-len
returns-then-from-len c =
    let r = c.from.ensures ∙ c.resolution-r.ensures in
    rw (no-words c.args.claim.now c.args.pattern.now (omega arith)) at c.put.ensures.ok
