use Rattle.std.proofs.Common.{List, ℕ, length, map, ◌++◌, ap, sym, ◌∙◌}
use Rattle.std.proofs.lemmas.List.{length-map}
use Rattle.fx_statements.specs.Steps.{meaning_of}
use Rattle.fx_program.specs.Summaries.{five_lines}
use Rattle.fx_program.proofs.Endings.{lists_by, lists_none}
use Rattle.fx_program.proofs.Summing.{summed_up}
use Rattle.fx_program.proofs.run.sum_up.Goals as goal

pub returns-in_err-summary : goal.returns-in_err-summary
returns-in_err-summary g c = lists_none _ c.from_residual.result c.from_residual.ensures.1 _

pub returns-in_err-put_summary : goal.returns-in_err-put_summary
returns-in_err-put_summary g c =
    lists_none _ c.from_residual-in_err-put_summary.result c.from_residual-in_err-put_summary.ensures.1 _

pub returns : goal.returns
returns g c =
    let summary = c.in_ok-summary.summary in
    let lines = five_lines (length c.args.steps.now) summary.designs summary.without summary.cut_short summary.nodes in
    let bytes =
    c.as_slice.ensures ∙ c.in_ok-put_summary.ensures ∙ ap (λ (l : List ℕ). l ++ lines) c.new-lines.ensures in
    lists_by
    (summed_up (map meaning_of c.args.steps.now) summary (length c.args.steps.now) c.as_slice.result.now
    c.in_ok-summary.ensures.summary
    (sym (length-map c.args.steps.now meaning_of)) bytes)
    c.list.ensures.output
