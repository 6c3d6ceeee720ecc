use Rattle.std.proofs.Common.{◌∷◌, [], map}
use Rattle.fx_base.specs.Acts.{BeginFile, FileByte, EndFile}
use Rattle.fx_base.proofs.Doing.{shelves_more, shelves_part_more, shelves_part_first, shelves_part_none}
use Rattle.fx_base.proofs.Doing.{shelves_part_whole}
use Rattle.fx_base.proofs.writing.shelve.Goals as goal

pub returns-clause-done : goal.returns-clause-done
returns-clause-done g c = shelves_more _ _ _ (BeginFile c.args.name.now ∷ []) _ c.in_ok-begin.ensures.done
    (shelves_more _ _ _ _ _ c.in_ok-fill.ensures.done c.in_ok-end.ensures.done)

pub returns-in_err-begin-clause-part : goal.returns-in_err-begin-clause-part
returns-in_err-begin-clause-part g c = shelves_part_none _ _ _ c.in_err-begin.ensures.failed

pub returns-in_err-fill-clause-part : goal.returns-in_err-fill-clause-part
returns-in_err-fill-clause-part g c =
    shelves_part_more _ _ _ (BeginFile c.args.name.now ∷ []) _ c.in_ok-begin.ensures.done
    (shelves_part_first _ _ (map FileByte c.args.content.now) (EndFile ∷ []) c.in_err-fill.ensures.part)

pub returns-in_err-end-clause-part : goal.returns-in_err-end-clause-part
returns-in_err-end-clause-part g c =
    shelves_part_more _ _ _ (BeginFile c.args.name.now ∷ []) _ c.in_ok-begin.ensures.done
    (shelves_part_more _ _ _ (map FileByte c.args.content.now) (EndFile ∷ []) c.in_ok-fill.ensures.done
    (shelves_part_none _ _ _ c.in_err-end.ensures.failed))

pub returns-clause-part : goal.returns-clause-part
returns-clause-part g c =
    shelves_part_whole _ _ _ (shelves_more _ _ _ (BeginFile c.args.name.now ∷ []) _ c.in_ok-begin.ensures.done
    (shelves_more _ _ _ _ _ c.in_ok-fill.ensures.done c.in_ok-end.ensures.done))
