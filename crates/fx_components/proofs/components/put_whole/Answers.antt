use Rattle.std.proofs.Common.{rules, ◌≡◌, ◌++◌, ◌∙◌, length, sym, ap, append-nil, arith}
use Rattle.std.specs.Vec.Iter.{into_iter_items, into_iter_len}
use Rattle.std.proofs.lemmas.List.{nil_from_length}
use Rattle.fx_components.proofs.Enumerating.{begun_with, whole}
use Rattle.fx_components.proofs.components.put_whole.Goals as goal

pub returns : goal.returns
returns c =
    let none : c.args.count ≡ 0 = omega arith in
    let count : into_iter_len c.loop-v.v-iterator ≡ length (into_iter_items c.loop-v.v-iterator) = search rules in
    let left =
    nil_from_length _ (sym count ∙ c.in-None.ensures.steps.0) in
    sym (append-nil c.loop-v.found) ∙ ap (λ l. c.loop-v.found ++ l) (sym left) ∙ c.loop-v.invariant
    ∙ ap (λ l. c.args.found.now ++ l) (sym (whole c.args.q c.args.chosen.now.items)) ∙ ap
    (λ n. c.args.found.now ++ begun_with c.args.q c.args.chosen.now.items n 0) (sym none)
