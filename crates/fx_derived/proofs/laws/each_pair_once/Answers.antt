use Rattle.std.proofs.Common.{◌++◌, [], ◌∙◌, arith}
use Rattle.fx_derived.proofs.Pairing.{length-pairs, pair_at}
use Rattle.fx_derived.proofs.laws.each_pair_once.Goals as goal

pub returns-clause-as_many : goal.returns-clause-as_many
returns-clause-as_many c rows named = length-pairs (λ x y. x ++ y) named.rows rows.rows

pub returns-clause-inside : goal.returns-clause-inside
returns-clause-inside c rows named i j hi hj = pair_at (λ x y. x ++ y) named.rows rows.rows i j [] [] [] hi hj

pub returns-clause-as_many_outside : goal.returns-clause-as_many_outside
returns-clause-as_many_outside c rows named = length-pairs (λ y x. x ++ y) rows.rows named.rows ∙ omega arith

pub returns-clause-outside : goal.returns-clause-outside
returns-clause-outside c rows named i j hi hj = pair_at (λ y x. x ++ y) rows.rows named.rows j i [] [] [] hj hi
