use Rattle.std.specs.Prelude.{bit_or, bit_xor}
use Rattle.std.proofs.lemmas.Bool.{eq-eqb, ne_eqb, cond-true, cond-false}
use Rattle.fx_runs.proofs.Walks.{among-differs}
use Rattle.fx_runs.proofs.walk.Supports.of_differences.Goals as goal
use Rattle.fx_vectors.specs.declared.shape.TheConstants.{MOST_FACTORS}

pub returns-then-q-eq2 : goal.returns-then-q-eq2
returns-then-q-eq2 c =
    λ f h. rw (cond-true _ (bit_xor c.args.u c.args.v) (bit_or c.args.u c.args.v) (eq-eqb c.args.q 2 c.if-q-eq2.true))
    at (among-differs c.args.q c.args.u c.args.v MOST_FACTORS f h)

pub returns-else-q-eq2 : goal.returns-else-q-eq2
returns-else-q-eq2 c =
    λ f h. rw (cond-false _ (bit_xor c.args.u c.args.v) (bit_or c.args.u c.args.v) (ne_eqb c.args.q 2 c.if-q-eq2.false))
    at (among-differs c.args.q c.args.u c.args.v MOST_FACTORS f h)
