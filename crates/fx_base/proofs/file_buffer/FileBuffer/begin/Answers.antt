use Rattle.std.proofs.Common.{[], false, List, sym, ◌∙◌, ap, arith, rules}
use Rattle.fx_base.specs.Acts.{File}
use Rattle.fx_base.specs.Memory.{FilesInMemory, has_open, room_of}
use Rattle.fx_base.proofs.Flat.{begin_keeps, files_begun}
use Rattle.fx_base.proofs.Room.{has_open-snoc, room_of-snoc}
use Rattle.fx_base.proofs.file_buffer.FileBuffer.begin.Goals as goal

pub invariant_of-self : goal.invariant_of-self
invariant_of-self c =
    let room = rw (← c.self.view_is) at c.requires.room in
    let counted = c.self.invariant.counted in
    begin_keeps _ _ _ _ _ _ _ _ _ _ _ _ _ c.self.invariant (search rules) (search rules) c.in-Ok.ensures.items
    c.push_reserved.ensures.items
    c.requires.name (omega arith) c.in-Ok.ensures.capacity (sym c.push_reserved.ensures.capacity)

pub returns-clause-after : goal.returns-clause-after
returns-clause-after c = rw (← c.self.view_is, c.in-Ok.ensures.items, c.push_reserved.ensures.items)
    (ap (λ (files : List File). record { files = files; room = c.self.inside.room })
    (files_begun _ _ _ _ _ (search rules) (c.len-end.ensures ∙ search rules) c.self.invariant.within))

pub returns-clause-begun : goal.returns-clause-begun
returns-clause-begun c = ap (λ (s : FilesInMemory). has_open s.files) (returns-clause-after c)
    ∙ has_open-snoc c.args.self.now.files (record { name = c.args.name.now; content = []; ended = false })

pub returns-clause-taken : goal.returns-clause-taken
returns-clause-taken c = ap (λ (s : FilesInMemory). room_of s.files) (returns-clause-after c)
    ∙ room_of-snoc c.args.self.now.files (record { name = c.args.name.now; content = []; ended = false })
