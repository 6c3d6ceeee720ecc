use Rattle.std.proofs.Common.{ℕ, List, [], ◌∷◌, ap, refl, arith}
use Rattle.fx_base.specs.Pieces.{joined}
use Rattle.fx_program.specs.declared.lister.BookFile.{BookFile}
use Rattle.fx_program.proofs.Filing.{shelved_all, shelved_each, shelved_more, shelved_none, stopped_in}
use Rattle.fx_program.proofs.lister.shelve_book.Goals as goal

abbrev name : BookFile → List ℕ
name file = file.name.items

abbrev content : BookFile → List ℕ
content file = joined file.pieces

pub returns-in_err-shelve_pieces-in-Some : goal.returns-in_err-shelve_pieces-in-Some
returns-in_err-shelve_pieces-in-Some g c =
    let file = c.in-Some.file in
    rw c.in-Some.is
    (stopped_in name content (file ∷ []) 0 file refl _ _ c.as_slice.ensures.value
    (ap joined c.as_slice-in-Some.ensures)
    (omega arith) (shelved_none _ c.requires.ended) c.in_err-shelve_pieces-in-Some.ensures.unchanged
    c.in_err-shelve_pieces-in-Some.ensures.part c.in_err-shelve_pieces-in-Some.ensures.cause.failed
    c.from_residual.result c.from_residual.ensures.1)

pub returns-in_ok-shelve_pieces-in-Some : goal.returns-in_ok-shelve_pieces-in-Some
returns-in_ok-shelve_pieces-in-Some g c =
    let file = c.in-Some.file in
    rw c.in-Some.is (shelved_each name content (file ∷ []) 1 _ (omega arith)
    (shelved_more name content (file ∷ []) 0 file refl _ _ c.as_slice.ensures.value
    (ap joined c.as_slice-in-Some.ensures)
    (omega arith) (shelved_none _ c.requires.ended) c.in_ok-shelve_pieces-in-Some.ensures.unchanged
    c.in_ok-shelve_pieces-in-Some.ensures.done c.in_ok-shelve_pieces-in-Some.ensures.state
    c.in_ok-shelve_pieces-in-Some.ensures.cause.unchanged))

pub returns-in-None : goal.returns-in-None
returns-in-None g c = rw c.in-None.is (shelved_all _ (shelved_none _ c.requires.ended))
