use Rattle.std.proofs.Common.{◌++◌, ◌≡◌, List, ℕ, ap, ◌∙◌, subst}
use Rattle.std.specs.Prelude.{codes, decimal, OnOk}
use Rattle.fx_program.specs.Making.{made_factors, made_levels}
use Rattle.std.proofs.lemmas.Result.{on_err_weaker}
use Rattle.fx_base.proofs.Held.{at_err, nothing, past_first}
use Rattle.fx_program.proofs.Made.{joined}
use Rattle.fx_program.proofs.making.put_factors.Goals as goal

pub returns-clause-ok : goal.returns-clause-ok
returns-clause-ok c =
    let factors = decimal (made_factors c.args.k) in
    let levels = decimal (made_levels c.args.k) in
    let first =
    c.in_ok-put_number.ensures.ok ∙ ap (λ (n : ℕ). c.put.new.out ++ decimal n)
    (c.from.ensures ∙ c.factors_at.ensures) in
    let second =
    c.in_ok-put_number-2.ensures.ok ∙ ap (λ (n : ℕ). c.put-2.new.out ++ decimal n)
    (c.from-2.ensures ∙ c.levels_at.ensures) in
    let e =
    joined c.put-2.new.out levels c.put_number-2.new.out (codes ";\n") second
    ∙ joined c.put_number.new.out (codes " / nlev=") c.put-2.new.out (levels ++ codes ";\n") c.in_ok-put-2.ensures.ok
    ∙ joined c.put.new.out factors c.put_number.new.out (codes " / nlev=" ++ (levels ++ codes ";\n")) first
    ∙ joined c.args.out.now (codes "factors X1-X") c.put.new.out
    (factors ++ (codes " / nlev=" ++ (levels ++ codes ";\n"))) c.in_ok-put.ensures.ok in
    subst (λ (l : List ℕ). OnOk c.put-3.result (c.put-3.new.out ≡ l)) e c.put-3.ensures.ok

pub returns-in_err-put_number-clause-err : goal.returns-in_err-put_number-clause-err
returns-in_err-put_number-clause-err c =
    at_err c.from_residual-in_err-put_number.result
    (past_first c.args.out.now c.put.new.out c.put_number.new.out (codes "factors X1-X") _ c.in_ok-put.ensures.ok
    (nothing _ _ _ c.in_err-put_number.ensures.err))

pub returns-in_err-put-2-clause-err : goal.returns-in_err-put-2-clause-err
returns-in_err-put-2-clause-err c =
    let factors =
    c.in_ok-put_number.ensures.ok ∙ ap (λ (n : ℕ). c.put.new.out ++ decimal n)
    (c.from.ensures ∙ c.factors_at.ensures) in
    at_err c.from_residual-in_err-put-2.result
    (past_first c.args.out.now c.put.new.out c.put-2.new.out (codes "factors X1-X") _ c.in_ok-put.ensures.ok
    (past_first c.put.new.out c.put_number.new.out c.put-2.new.out (decimal (made_factors c.args.k)) _ factors
    (nothing _ _ _ c.in_err-put-2.ensures.err)))

pub returns-in_err-put_number-2-clause-err : goal.returns-in_err-put_number-2-clause-err
returns-in_err-put_number-2-clause-err c =
    let factors =
    c.in_ok-put_number.ensures.ok ∙ ap (λ (n : ℕ). c.put.new.out ++ decimal n)
    (c.from.ensures ∙ c.factors_at.ensures) in
    at_err c.from_residual-in_err-put_number-2.result
    (past_first c.args.out.now c.put.new.out c.put_number-2.new.out (codes "factors X1-X") _ c.in_ok-put.ensures.ok
    (past_first c.put.new.out c.put_number.new.out c.put_number-2.new.out (decimal (made_factors c.args.k)) _ factors
    (past_first c.put_number.new.out c.put-2.new.out c.put_number-2.new.out (codes " / nlev=") _
    c.in_ok-put-2.ensures.ok (nothing _ _ _ c.in_err-put_number-2.ensures.err))))

pub returns-clause-err : goal.returns-clause-err
returns-clause-err c =
    let factors =
    c.in_ok-put_number.ensures.ok ∙ ap (λ (n : ℕ). c.put.new.out ++ decimal n)
    (c.from.ensures ∙ c.factors_at.ensures) in
    let levels =
    c.in_ok-put_number-2.ensures.ok ∙ ap (λ (n : ℕ). c.put-2.new.out ++ decimal n)
    (c.from-2.ensures ∙ c.levels_at.ensures) in
    on_err_weaker c.put-3.result
    (λ h. past_first c.args.out.now c.put.new.out c.put-3.new.out (codes "factors X1-X") _ c.in_ok-put.ensures.ok
    (past_first c.put.new.out c.put_number.new.out c.put-3.new.out (decimal (made_factors c.args.k)) _ factors
    (past_first c.put_number.new.out c.put-2.new.out c.put-3.new.out (codes " / nlev=") _ c.in_ok-put-2.ensures.ok
    (past_first c.put-2.new.out c.put_number-2.new.out c.put-3.new.out (decimal (made_levels c.args.k)) _ levels
    (nothing _ _ _ h)))))
    c.put-3.ensures.err
