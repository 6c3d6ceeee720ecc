use Rattle.std.proofs.Common.{ℕ, ◌++◌, sym, ap, ap₂, ◌∙◌}
use Rattle.std.specs.Prelude.{codes}
use Rattle.fx_book.specs.Faults.{code_of}
use Rattle.fx_program.specs.Output.{message}
use Rattle.fx_program.specs.Verdicts.{rejected_line}
use Rattle.fx_program.proofs.Endings.{lists_by, lists_none}
use Rattle.fx_program.proofs.checking.refuse_book.Goals as goal

pub returns-in_err-put_rejected : goal.returns-in_err-put_rejected
returns-in_err-put_rejected g c = lists_none _ c.from_residual.result c.from_residual.ensures.1 _

pub returns : goal.returns
returns g c =
    let fault = c.args.fault in
    lists_by
    (ap (λ l. message l 1)
    (sym (c.as_slice.ensures ∙ c.in_ok-put_rejected.ensures
    ∙ ap₂ (λ l n. l ++ rejected_line c.from.result (codes "B") n) c.new-line.ensures c.code.ensures
    ∙ ap (λ (k : ℕ). rejected_line k (codes "B") (code_of fault.kind)) c.from.ensures)))
    c.list.ensures.output
