use Rattle.std.proofs.Common.{◌++◌, ◌≡◌, List, ℕ, ap, ◌∙◌, subst}
use Rattle.std.specs.Prelude.{codes, decimal, OnOk}
use Rattle.fx_program.specs.Making.{made_runs}
use Rattle.std.proofs.lemmas.Result.{on_err_weaker}
use Rattle.fx_base.proofs.Held.{at_err, nothing, past_first}
use Rattle.fx_program.proofs.Made.{joined}
use Rattle.fx_program.proofs.making.put_size.Goals as goal

pub returns-clause-ok : goal.returns-clause-ok
returns-clause-ok c =
    let runs =
    c.in_ok-put_number.ensures.ok ∙ ap (λ (n : ℕ). c.put.new.out ++ decimal n) (c.from.ensures ∙ c.runs_at.ensures)
    in
    let e =
    joined c.put.new.out (decimal (made_runs c.args.k)) c.put_number.new.out (codes ";\n") runs
    ∙ joined c.args.out.now (codes "size design=") c.put.new.out (decimal (made_runs c.args.k) ++ codes ";\n")
    c.in_ok-put.ensures.ok in
    subst (λ (l : List ℕ). OnOk c.put-2.result (c.put-2.new.out ≡ l)) e c.put-2.ensures.ok

pub returns-in_err-put_number-clause-err : goal.returns-in_err-put_number-clause-err
returns-in_err-put_number-clause-err c =
    at_err c.from_residual-in_err-put_number.result
    (past_first c.args.out.now c.put.new.out c.put_number.new.out (codes "size design=") _ c.in_ok-put.ensures.ok
    (nothing _ _ _ c.in_err-put_number.ensures.err))

pub returns-clause-err : goal.returns-clause-err
returns-clause-err c =
    let runs =
    c.in_ok-put_number.ensures.ok ∙ ap (λ (n : ℕ). c.put.new.out ++ decimal n) (c.from.ensures ∙ c.runs_at.ensures)
    in
    on_err_weaker c.put-2.result
    (λ h. past_first c.args.out.now c.put.new.out c.put-2.new.out (codes "size design=") _ c.in_ok-put.ensures.ok
    (past_first c.put.new.out c.put_number.new.out c.put-2.new.out (decimal (made_runs c.args.k)) _ runs
    (nothing _ _ _ h)))
    c.put-2.ensures.err
