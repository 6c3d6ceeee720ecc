use Rattle.std.proofs.Common.{◌≡◌, ◌++◌, ◌+◌, ◌-◌, List, ℕ, ap, arith, subst, sym, ◌∙◌, append_assoc, append-nil}
use Rattle.fx_base.specs.Writing.{HoldsPart}
use Rattle.fx_base.proofs.Held.{at_err, past_first}
use Rattle.fx_program.specs.Making.{made_text, step_text}
use Rattle.fx_program.proofs.Made.{held_by_more, no_steps, one_step_more}
use Rattle.fx_program.proofs.making.make_text.Goals as goal

pub loop-i-init : goal.loop-i-init
loop-i-init c = sym (ap (λ (l : List ℕ). c.args.out.now ++ l) no_steps ∙ append-nil c.args.out.now)

pub loop-i-preserved : goal.loop-i-preserved
loop-i-preserved c =
    c.in_ok-put_step.ensures.ok
    ∙ ap (λ (l : List ℕ). l ++ step_text (c.loop-i.i + 1)) c.loop-i.invariant
    ∙ append_assoc c.args.out.now (made_text c.loop-i.i) (step_text (c.loop-i.i + 1))
    ∙ ap (λ (l : List ℕ). c.args.out.now ++ l) (sym (one_step_more c.loop-i.i))

pub returns-in_err-put_step-clause-err : goal.returns-in_err-put_step-clause-err
returns-in_err-put_step-clause-err c =
    let i = c.loop-i.i in
    let old = c.args.out.now in
    let new = c.put_step.new.out in
    let here : HoldsPart old new (made_text (i + 1)) =
    subst (HoldsPart old new) (sym (one_step_more i))
    (past_first old c.loop-i.out new (made_text i) (step_text (i + 1)) c.loop-i.invariant
    c.in_err-put_step.ensures.err) in
    let all : i + 1 + (c.args.n - (i + 1)) ≡ c.args.n = omega arith in
    at_err c.from_residual.result
    (subst (λ (n : ℕ). HoldsPart old new (made_text n)) all (held_by_more old new (i + 1) (c.args.n - (i + 1)) here))
