use Rattle.std.proofs.Common.{◌++◌, [], ◌∙◌, List, ℕ, arith}
use Rattle.fx_derived.specs.Tables.{TableView}
use Rattle.fx_derived.proofs.Pairing.{pairs_more}
use Rattle.fx_derived.proofs.crossing.push_pairs.Goals as goal

abbrev with_rows : List (List ℕ) → List (List (List ℕ)) → TableView
with_rows names rows = record { names = names; rows = rows }

pub loop-i-preserved : goal.loop-i-preserved
loop-i-preserved c =
    c.in_ok-push_with_each.ensures ∙ rw c.loop-i.invariant
    (cc (pairs_more (λ x y. x ++ y) c.args.named.now.rows c.args.rows.now.rows c.loop-i.i [] (omega arith)))

pub loop-j-preserved : goal.loop-j-preserved
loop-j-preserved c =
    c.in_ok-push_each_with.ensures ∙ rw c.loop-j.invariant
    (cc (pairs_more (λ y x. x ++ y) c.args.rows.now.rows c.args.named.now.rows c.loop-j.j [] (omega arith)))
