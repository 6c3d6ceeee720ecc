use Rattle.std.proofs.Common.{◌≡◌, Some, None, rules}
use Rattle.fx_edge.proofs.Filing.{closed}
use Rattle.fx_edge.proofs.folder_shelf.FolderShelfShelf.end.Goals as goal

pub returns-clause-done : goal.returns-clause-done
returns-clause-done g c =
    let was : c.args.self.now.begun ≡ Some c.in-Some.begun = search rules in
    let gone : c.take.new.self ≡ None = search rules in
    rw (was, gone) (closed _ _ _ _ c.close.ensures)
