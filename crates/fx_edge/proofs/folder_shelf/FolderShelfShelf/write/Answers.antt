use Rattle.std.proofs.Common.{◌≡◌, Some, rules}
use Rattle.fx_edge.proofs.Filing.{written}
use Rattle.fx_edge.proofs.folder_shelf.FolderShelfShelf.write.Goals as goal

pub returns-in-Ok-clause-taken : goal.returns-in-Ok-clause-taken
returns-in-Ok-clause-taken g c =
    let was : c.args.self.now.begun ≡ Some c.in-Some.begun = search rules in
    rw was (written _ _ _ _ _ c.in-Ok.ensures.bytes)
