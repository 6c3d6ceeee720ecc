use Rattle.std.proofs.Common.{◌++◌, ◌≡◌, List, ℕ, ap, ◌∙◌, subst}
use Rattle.std.specs.Prelude.{codes, OnOk}
use Rattle.fx_program.specs.Making.{factors_line, model_line, size_line}
use Rattle.std.proofs.lemmas.Result.{on_err_weaker}
use Rattle.fx_base.proofs.Held.{at_err, nothing, in_first, past_first}
use Rattle.fx_program.proofs.Made.{joined}
use Rattle.fx_program.proofs.making.put_step.Goals as goal

pub returns-clause-ok : goal.returns-clause-ok
returns-clause-ok c =
    let k = c.args.k in
    let model = c.in_ok-put-2.ensures.ok ∙ ap (λ (l : List ℕ). c.put_size.new.out ++ l) c.model_line.ensures in
    let e =
    joined c.put_size.new.out (model_line k) c.put-2.new.out (codes "run;\n") model
    ∙ joined c.put_factors.new.out (size_line k) c.put_size.new.out (model_line k ++ codes "run;\n")
    c.in_ok-put_size.ensures.ok
    ∙ joined c.put.new.out (factors_line k) c.put_factors.new.out (size_line k ++ (model_line k ++ codes "run;\n"))
    c.in_ok-put_factors.ensures.ok
    ∙ joined c.args.out.now (codes "proc factex nodes=20000;\n") c.put.new.out
    (factors_line k ++ (size_line k ++ (model_line k ++ codes "run;\n"))) c.in_ok-put.ensures.ok in
    subst (λ (l : List ℕ). OnOk c.put-3.result (c.put-3.new.out ≡ l)) e c.put-3.ensures.ok

pub returns-in_err-put_factors-clause-err : goal.returns-in_err-put_factors-clause-err
returns-in_err-put_factors-clause-err c =
    at_err c.from_residual-in_err-put_factors.result
    (past_first c.args.out.now c.put.new.out c.put_factors.new.out (codes "proc factex nodes=20000;\n") _
    c.in_ok-put.ensures.ok
    (in_first c.put.new.out c.put_factors.new.out (factors_line c.args.k) _ c.in_err-put_factors.ensures.err))

pub returns-in_err-put_size-clause-err : goal.returns-in_err-put_size-clause-err
returns-in_err-put_size-clause-err c =
    at_err c.from_residual-in_err-put_size.result
    (past_first c.args.out.now c.put.new.out c.put_size.new.out (codes "proc factex nodes=20000;\n") _
    c.in_ok-put.ensures.ok
    (past_first c.put.new.out c.put_factors.new.out c.put_size.new.out (factors_line c.args.k) _
    c.in_ok-put_factors.ensures.ok
    (in_first c.put_factors.new.out c.put_size.new.out (size_line c.args.k) _ c.in_err-put_size.ensures.err)))

pub returns-in_err-put-2-clause-err : goal.returns-in_err-put-2-clause-err
returns-in_err-put-2-clause-err c =
    at_err c.from_residual-in_err-put-2.result
    (past_first c.args.out.now c.put.new.out c.put-2.new.out (codes "proc factex nodes=20000;\n") _
    c.in_ok-put.ensures.ok
    (past_first c.put.new.out c.put_factors.new.out c.put-2.new.out (factors_line c.args.k) _
    c.in_ok-put_factors.ensures.ok
    (past_first c.put_factors.new.out c.put_size.new.out c.put-2.new.out (size_line c.args.k) _
    c.in_ok-put_size.ensures.ok (nothing _ _ _ c.in_err-put-2.ensures.err))))

pub returns-clause-err : goal.returns-clause-err
returns-clause-err c =
    let model = c.in_ok-put-2.ensures.ok ∙ ap (λ (l : List ℕ). c.put_size.new.out ++ l) c.model_line.ensures in
    on_err_weaker c.put-3.result
    (λ h. past_first c.args.out.now c.put.new.out c.put-3.new.out (codes "proc factex nodes=20000;\n") _
    c.in_ok-put.ensures.ok
    (past_first c.put.new.out c.put_factors.new.out c.put-3.new.out (factors_line c.args.k) _
    c.in_ok-put_factors.ensures.ok
    (past_first c.put_factors.new.out c.put_size.new.out c.put-3.new.out (size_line c.args.k) _
    c.in_ok-put_size.ensures.ok
    (past_first c.put_size.new.out c.put-2.new.out c.put-3.new.out (model_line c.args.k) _ model (nothing _ _ _ h)))))
    c.put-3.ensures.err
