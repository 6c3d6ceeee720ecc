use Rattle.std.proofs.Common.{◌≡◌, ◌+◌, ◌++◌, ◌∷◌, [], ◌∙◌, true, false, get_or, drop, ap, sym, append_assoc}
use Rattle.std.proofs.Common.{rules}
use Rattle.std.proofs.lemmas.List.{drop_more, get_or_default}
use Rattle.fx_outputs.specs.DerivedFactors.{is_bracketed}
use Rattle.fx_outputs.specs.OwnColumns.{free_names}
use Rattle.fx_outputs.proofs.OwnNames.{bracketed_name, own_name}
use Rattle.fx_outputs.proofs.own_columns.push_free.Goals as goal
use Rattle.fx_outputs.proofs.own_columns.push_free.Goals.{then-not-is_bracketed+in_ok-from_slice+in_ok-push}
use Rattle.fx_outputs.proofs.own_columns.push_free.Goals.{else-not-is_bracketed}

pub loop-i-preserved : goal.loop-i-preserved
loop-i-preserved c =
    let derived = c.args.derived.now in
    let factors = c.args.factors.now in
    let name = get_or factors c.loop-i.i [] in
    let so_far =
    ap (λ l. c.loop-i.names ++ l)
    (sym (ap (free_names derived (c.loop-i.i + 1)) (drop_more factors c.loop-i.i [] c.loop-i-test.true))) ∙
    c.loop-i.invariant in
    elim c.if-not-is_bracketed.branch [
      | then-not-is_bracketed+in_ok-from_slice+in_ok-push w ↦
          let added : w.push.new.self ≡ c.loop-i.names ++ w.index-factors-i.result ∷ [] = search rules in
          let pushed : w.push.new.self ≡ c.loop-i.names ++ name ∷ [] =
          cc (w.index-factors-i.is ∙ get_or_default factors c.loop-i.i w.index-factors-i.result [] c.loop-i-test.true)
          in
          rw (w.names-is, pushed)
          (cc (
            append_assoc c.loop-i.names (name ∷ [])
                (free_names derived (c.loop-i.i + 1 + 1) (drop (c.loop-i.i + 1) factors)),
            own_name derived _ name
                (drop (c.loop-i.i + 1) factors) (sym c.is_bracketed.ensures ∙ w.if-not-is_bracketed.true),
          ))
      | else-not-is_bracketed w ↦
          rw w.names-is
          (cc (bracketed_name derived _ name (drop (c.loop-i.i + 1) factors)
          (sym c.is_bracketed.ensures ∙ w.if-not-is_bracketed.false)))
    ]
