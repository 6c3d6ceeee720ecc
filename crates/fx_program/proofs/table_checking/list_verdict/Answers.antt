use Rattle.std.proofs.Common.{◌++◌, sym, ap, ap₂, ◌∙◌}
use Rattle.fx_program.specs.Output.{message}
use Rattle.fx_program.proofs.Endings.{lists_by, lists_none}
use Rattle.fx_table_book.specs.Texts.{contents}
use Rattle.fx_table_check.specs.declared.reason.Verdict.{Verdict}
use Rattle.fx_program.specs.TableVerdicts.{verdict_lines, verdict_status}
use Rattle.fx_program.proofs.table_checking.list_verdict.Goals as goal

pub returns-in_err-verdict : goal.returns-in_err-verdict
returns-in_err-verdict g c = lists_none _ c.from_residual.result c.from_residual.ensures.1 _

pub returns-in_err-put_verdict : goal.returns-in_err-put_verdict
returns-in_err-put_verdict g c =
    lists_none _ c.from_residual-in_err-put_verdict.result c.from_residual-in_err-put_verdict.ensures.1 _

pub returns : goal.returns
returns g c =
    let verdict : Verdict = c.in_ok-verdict.verdict in
    let lines = c.as_slice.ensures ∙ c.in_ok-put_verdict.ensures
    ∙ ap (λ l. l ++ verdict_lines (contents c.args.book.now) verdict) c.new-lines.ensures in
    lists_by
    (sym (ap₂ message lines c.status_of.ensures.status
    ∙ ap (λ (v : Verdict). message (verdict_lines (contents c.args.book.now) v) (verdict_status v))
    c.in_ok-verdict.ensures.verdict))
    c.list.ensures.output
