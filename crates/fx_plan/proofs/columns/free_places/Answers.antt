use Rattle.std.proofs.Common.{◌+◌, ◌++◌, ◌∷◌, [], ◌∙◌, ℕ, true, false, cond, not, sym, ap, append-nil}
use Rattle.fx_outputs.specs.DerivedFactors.{free_places, is_bracketed}
use Rattle.fx_plan.proofs.Lists.{passing_more}
use Rattle.fx_plan.proofs.columns.free_places.Goals as goal
use Rattle.fx_plan.proofs.columns.free_places.Goals.{then-not-is_bracketed+in_ok-push, else-not-is_bracketed}

pub loop-i-preserved : goal.loop-i-preserved
loop-i-preserved c =
    let derived = c.args.derived.now in
    let place : ℕ = c.loop-i.i + 1 in
    let more = passing_more (λ p. not (is_bracketed derived p)) c.loop-i.i in
    elim c.if-not-is_bracketed.branch [
      | then-not-is_bracketed+in_ok-push w ↦
          let free = sym c.is_bracketed.ensures ∙ w.if-not-is_bracketed.true in
          w.free-is ∙ w.in_ok-push.ensures.ok
          ∙ rw c.loop-i.invariant
          (sym (more ∙ ap (λ b. free_places c.loop-i.i derived ++ cond (not b) (place ∷ []) []) free))
      | else-not-is_bracketed w ↦
          let taken = sym c.is_bracketed.ensures ∙ w.if-not-is_bracketed.false in
          w.free-is ∙ c.loop-i.invariant
          ∙ sym (more ∙ ap (λ b. free_places c.loop-i.i derived ++ cond (not b) (place ∷ []) []) taken
          ∙ append-nil (free_places c.loop-i.i derived))
    ]
