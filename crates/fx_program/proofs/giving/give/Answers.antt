use Rattle.std.proofs.Common.{◌++◌, List, ℕ, Result, Ok, Err, OnOk, append_assoc, sym, ap, ap₂, refl, ◌∙◌}
use Rattle.fx_statements.specs.Steps.{meaning_of}
use Rattle.fx_program.specs.Ended.{ended_lines}
use Rattle.fx_program.specs.Files.{book_files, design_files, fold_line, output_lines}
use Rattle.fx_program.specs.Output.{with_files}
use Rattle.fx_program.specs.Plans.{asked_by}
use Rattle.fx_program.proofs.Endings.{after_files, stopped_after_files, stopped_in_files, writes_by}
use Rattle.fx_program.proofs.giving.give.Goals as goal

whatever : {A B : Type 0} (r : Result A B) (P : Type 0) → P → OnOk r P
whatever (Ok a) P p = p
whatever (Err b) P p = tt

pub returns-in_err-shelve_files-clause-output : goal.returns-in_err-shelve_files-clause-output
returns-in_err-shelve_files-clause-output g c =
    writes_by refl (stopped_in_files _ _ _ _ c.in_err-shelve_files.field-0.0 c.in_err-shelve_files.ensures.files
    c.from_residual.result c.from_residual.ensures.1)

pub returns-in_err-lines-clause-output : goal.returns-in_err-lines-clause-output
returns-in_err-lines-clause-output g c =
    writes_by refl (stopped_after_files _ _ _ c.in_ok-shelve_files.ensures.files _
    c.from_residual-in_err-lines.result c.from_residual-in_err-lines.ensures.1)

pub returns-in_err-put-clause-output : goal.returns-in_err-put-clause-output
returns-in_err-put-clause-output g c =
    writes_by refl (stopped_after_files _ _ _ c.in_ok-shelve_files.ensures.files _
    c.from_residual-in_err-put.result c.from_residual-in_err-put.ensures.1)

pub returns-in_err-put_fold_line-clause-output : goal.returns-in_err-put_fold_line-clause-output
returns-in_err-put_fold_line-clause-output g c =
    writes_by refl (stopped_after_files _ _ _ c.in_ok-shelve_files.ensures.files _
    c.from_residual-in_err-put_fold_line.result c.from_residual-in_err-put_fold_line.ensures.1)

pub returns-clause-output : goal.returns-clause-output
returns-clause-output g c =
    let ended = c.args.ended.now in
    let step = meaning_of ended.step.now in
    let seed = c.args.session.now.seed in
    let outcome = ended.outcome in
    let own = ended_lines ended.origin ended.number step outcome in
    let outputs = output_lines seed c.args.plans.now (asked_by step outcome.matrix) in
    let fold = fold_line ended.number step.fold outcome.matrix in
    let named =
    c.in_ok-shelve_files.ensures.lines ∙ ap (λ (l : List ℕ). l ++ outputs) c.new-named.ensures in
    let bytes =
    c.as_slice-2.ensures ∙ c.in_ok-put_fold_line.ensures
    ∙ ap (λ (l : List ℕ). l ++ fold) (c.in_ok-put.ensures.ok ∙ ap₂ (λ (l r : List ℕ). l ++ r) c.in_ok-lines.ensures
    (c.as_slice.ensures ∙ named))
    ∙ append_assoc own outputs fold in
    writes_by
    (ap₂ (λ (l : List ℕ) (n : ℕ). with_files
    (book_files ended.number outcome.books ++ design_files seed ended.number c.args.plans.now step outcome.matrix) l n)
    (sym bytes) (sym c.status_by.ensures.status))
    (after_files _ _ _ c.in_ok-shelve_files.ensures.files c.list.ensures.output)

pub returns-clause-plans : goal.returns-clause-plans
returns-clause-plans g c = whatever c.list.result _ c.in_ok-shelve_files.ensures.plans
