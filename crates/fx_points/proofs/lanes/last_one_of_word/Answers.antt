use Rattle.fx_points.proofs.LastOnes.{word_zeros, word_last}
use Rattle.fx_points.proofs.lanes.last_one_of_word.Goals as goal

pub returns-then-rest-eq0-clause-none : goal.returns-then-rest-eq0-clause-none
returns-then-rest-eq0-clause-none c = word_zeros c.args.words.now c.args.x (rw c.from.ensures at c.if-rest-eq0.true)

pub returns-clause-some : goal.returns-clause-some
returns-clause-some c = word_last c.args.words.now c.args.x c.last_bit.result (rw c.from.ensures at c.last_bit.ensures)
