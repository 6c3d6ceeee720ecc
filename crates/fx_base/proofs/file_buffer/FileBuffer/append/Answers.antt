use Rattle.std.proofs.Common.{List, sym, ◌∙◌, ap, arith, rules}
use Rattle.fx_base.specs.Acts.{File}
use Rattle.fx_base.specs.Memory.{FilesInMemory, has_open, room_of}
use Rattle.fx_base.proofs.Flat.{append_keeps, files_longer, last_of}
use Rattle.fx_base.proofs.Room.{part_bytes, room_bytes}
use Rattle.fx_base.proofs.file_buffer.FileBuffer.append.Goals as goal

pub invariant_of-self : goal.invariant_of-self
invariant_of-self c =
    let room = rw (← c.self.view_is) at c.requires.room in
    let counted = c.self.invariant.counted in
    append_keeps _ _ _ _ _ _ _ _ _ _ _ _ _ _ c.self.invariant (search rules) c.in-Ok.ensures.items
    c.in-Some.ensures.items c.push_reserved.ensures.items
    (omega arith) c.in-Ok.ensures.capacity (sym (c.push_reserved.ensures.capacity ∙ c.in-Some.ensures.capacity))

pub returns-clause-after : goal.returns-clause-after
returns-clause-after c =
    rw (← c.self.view_is, c.in-Ok.ensures.items, c.in-Some.ensures.items, c.push_reserved.ensures.items)
    (ap (λ (files : List File). record { files = files; room = c.self.inside.room })
    (files_longer _ _ _ _ _ (search rules) (rw c.in-Some.ensures.items at c.self.invariant.within)
    (last_of _ c.pop.new.self.items c.in-Some.last (rw c.in-Some.ensures.items at c.self.invariant.last))))

pub returns-clause-begun : goal.returns-clause-begun
returns-clause-begun c = ap (λ (s : FilesInMemory). has_open s.files) (returns-clause-after c)
    ∙ part_bytes c.args.piece.now c.args.self.now.files
    ∙ c.requires.begun

pub returns-clause-taken : goal.returns-clause-taken
returns-clause-taken c = ap (λ (s : FilesInMemory). room_of s.files) (returns-clause-after c)
    ∙ room_bytes c.args.piece.now c.args.self.now.files c.requires.begun
