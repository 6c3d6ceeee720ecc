use Rattle.std.proofs.Common.{◌≡◌, ◌∷◌, [], ℕ, List, ap, subst, ◌∙◌}
use Rattle.fx_base.specs.Acts.{WholeFile}
use Rattle.fx_plan.specs.Tables.{text_of_table}
use Rattle.fx_program.specs.Files.{file_name}
use Rattle.fx_program.specs.Outside.{ShelvesFiles, shelf_view}
use Rattle.fx_program.specs.Plans.{AskedView}
use Rattle.fx_program.proofs.Planned.{none_shelved}
use Rattle.fx_program.proofs.files.shelve_made.Goals as goal

pub returns-in_err-put_plan_lines-clause-files : goal.returns-in_err-put_plan_lines-clause-files
returns-in_err-put_plan_lines-clause-files g c =
    none_shelved _ _ c.from_residual.result c.from_residual.ensures.1

pub returns-clause-files : goal.returns-clause-files
returns-clause-files g c =
    let named : c.as_slice-2.result.now ≡ file_name c.args.asked.now.output.name =
    c.as_slice-2.ensures.value ∙ c.file_name-name.ensures ∙ ap file_name (c.as_slice.ensures
    ∙ ap (λ (a : AskedView). a.output.name) c.asked.view_is) in
    subst (λ (name : List ℕ). ShelvesFiles (WholeFile name (text_of_table c.args.plan.now) ∷ [])
    (shelf_view g.F.Shelf c.args.shelf.now) (shelf_view g.F.Shelf c.stream_plan.new.shelf) c.stream_plan.result)
    named c.stream_plan.ensures
