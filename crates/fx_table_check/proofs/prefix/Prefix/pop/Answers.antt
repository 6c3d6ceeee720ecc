use Rattle.fx_table_check.proofs.Prefixes.{popped}
use Rattle.fx_table_check.proofs.prefix.Prefix.pop.Goals as goal

pub invariant_of-self : goal.invariant_of-self
invariant_of-self c =
    rw c.pop-2.ensures
    (rw (← c.pop.ensures) at
    (popped c.self.inside.base c.self.inside.rows c.self.inside.cosets c.self.inside.inside c.self.inside.others
    c.self.inside.sums c.self.invariant))
