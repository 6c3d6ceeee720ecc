use Rattle.std.proofs.Common.{ℕ, ◌≡◌, sym, ap, ◌∙◌, subst}
use Rattle.fx_statements.specs.Steps.{Meaning}
use Rattle.fx_statements.specs.Questions.{block_factors, run_factors}
use Rattle.fx_answer.specs.Standing.{IsShapeOf}
use Rattle.fx_answer.proofs.Valid.{kept_valid, shape_valid}
use Rattle.fx_answer.proofs.question.shape_for.Goals as goal

shape_with : (step : Meaning) (q m s t m' s' t' : ℕ) → m ≡ m' → s ≡ s' → t ≡ t'
    → IsShapeOf step (record { q = q; m = m'; s = s'; t = t' }) → IsShapeOf step (record { q = q; m = m; s = s; t = t })
shape_with step q m s t m' s' t' em es et h =
    rw em (subst (λ x. IsShapeOf step (record { q = q; m = m'; s = x; t = t })) (sym es)
    (rw (← et) at h))

pub returns-clause-of_step : goal.returns-clause-of_step
returns-clause-of_step c =
    let step = c.args.step.now in
    let m = run_factors step.settings.size c.args.n in
    shape_with _ step.settings.q c.run_factors-m.result c.len.result c.block_factors.result
    m _ _
    c.run_factors-m.ensures c.len.ensures
    (c.block_factors.ensures ∙ ap (λ x. block_factors step.settings.blocks x c.args.n) c.run_factors-m.ensures)
    (shape_valid _ (kept_valid step) c.args.n c.requires.low c.requires.high)
