use Rattle.std.proofs.Common.{◌∷◌, [], List, ℕ, ◌∙◌, map, refl}
use Rattle.fx_base.specs.Acts.{BeginFile, FileByte, EndFile}
use Rattle.fx_base.proofs.Doing.{shelves_more, shelves_part_more, shelves_part_first, shelves_part_none}
use Rattle.fx_plan.specs.Tables.{text_of_table}
use Rattle.fx_program.specs.declared.stop.Stop.TheVariants as stop
use Rattle.fx_program.proofs.Filing.{file_shelved, file_stopped}
use Rattle.fx_program.proofs.Filling.{failed_since, so_far_of, stopped_since}
use Rattle.fx_program.proofs.streaming.stream_plan.Goals as goal

pub returns-in_err-begin : goal.returns-in_err-begin
returns-in_err-begin g c =
    file_stopped c.args.name.now (text_of_table c.args.plan.now) c.in_err-begin.ensures.unchanged stop.Failed
    (shelves_part_none _ _ _ c.in_err-begin.ensures.failed)
    (failed_since _ _ _ refl c.in_err-begin.ensures.cause.failed) c.from_residual.result c.from_residual.ensures.1

pub returns-in_err-fill_plan : goal.returns-in_err-fill_plan
returns-in_err-fill_plan g c =
    let content : List ℕ = text_of_table c.args.plan.now in
    file_stopped c.args.name.now content (c.in_err-fill_plan.ensures.room ∙ c.in_ok-begin.ensures.unchanged)
    c.in_err-fill_plan.field-0.0
    (shelves_part_more _ _ _ (BeginFile c.args.name.now ∷ []) _ c.in_ok-begin.ensures.done
    (shelves_part_first _ _ (map FileByte content) (EndFile ∷ []) c.in_err-fill_plan.ensures.part))
    (stopped_since _ _ _ c.in_err-fill_plan.field-0.0 c.in_ok-begin.ensures.cause.unchanged c.in_err-fill_plan.ensures.cause)
    c.from_residual-in_err-fill_plan.result c.from_residual-in_err-fill_plan.ensures.1

pub returns-in_err-end : goal.returns-in_err-end
returns-in_err-end g c =
    let content : List ℕ = text_of_table c.args.plan.now in
    let filled = so_far_of c.in_ok-fill_plan.ensures in
    file_stopped c.args.name.now content
    (c.in_err-end.ensures.unchanged ∙ filled.room ∙ c.in_ok-begin.ensures.unchanged) stop.Failed
    (shelves_part_more _ _ _ (BeginFile c.args.name.now ∷ []) _ c.in_ok-begin.ensures.done
    (shelves_part_more _ _ _ (map FileByte content) (EndFile ∷ []) filled.files
    (shelves_part_none _ _ _ c.in_err-end.ensures.failed)))
    (failed_since _ _ _ (filled.count ∙ c.in_ok-begin.ensures.cause.unchanged) c.in_err-end.ensures.cause.failed)
    c.from_residual-in_err-end.result c.from_residual-in_err-end.ensures.1

pub returns : goal.returns
returns g c =
    let content : List ℕ = text_of_table c.args.plan.now in
    let filled = so_far_of c.in_ok-fill_plan.ensures in
    file_shelved c.args.name.now content
    (c.in_ok-end.ensures.unchanged ∙ filled.room ∙ c.in_ok-begin.ensures.unchanged) tt
    (shelves_more _ _ _ (BeginFile c.args.name.now ∷ []) _ c.in_ok-begin.ensures.done
    (shelves_more _ _ _ _ _ filled.files c.in_ok-end.ensures.done))
    c.in_ok-end.ensures.state
    (c.in_ok-end.ensures.cause.unchanged ∙ filled.count ∙ c.in_ok-begin.ensures.cause.unchanged)
