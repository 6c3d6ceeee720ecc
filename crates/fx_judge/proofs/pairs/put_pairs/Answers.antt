use Rattle.std.proofs.Common.{ℕ, ◌<◌, ◌∙◌, List, length, map, sym, ap, arith}
use Rattle.std.proofs.lemmas.List.{get_or-map, length-map}
use Rattle.fx_judge.specs.declared.pairs.Column.{Column}
use Rattle.fx_judge.proofs.Columns.{pairs_more}
use Rattle.fx_judge.proofs.pairs.put_pairs.Goals as goal

pub loop-v-preserved : goal.loop-v-preserved
loop-v-preserved c =
    let later = c.args.later.now in
    let with : Column → List ℕ × List ℕ = λ v. (c.args.u.now.component, v.component) in
    let k = c.loop-v.v-index in
    let low : k < length later = omega arith in
    let is = ap with c.v-item.is ∙ sym (get_or-map with later k c.v-item.result (with c.v-item.result) low) in
    pairs_more c.args.plan.now (map with later) k _ _ c.args.pairs.now
    c.loop-v.pairs c.put_pair.new.pairs
    (rw (length-map later with) low) is c.loop-v.invariant c.in_ok-put_pair.ensures
