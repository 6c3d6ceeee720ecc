use Rattle.std.proofs.Common.{sym, ◌∙◌, ap}
use Rattle.fx_base.specs.Memory.{FilesInMemory, has_open, room_of}
use Rattle.fx_base.proofs.Flat.{end_keeps, files_closed}
use Rattle.fx_base.proofs.Room.{open_ended, room_ended}
use Rattle.fx_base.proofs.file_buffer.FileBuffer.end.Goals as goal

pub invariant_of-self : goal.invariant_of-self
invariant_of-self c =
    end_keeps _ _ _ _ _ _ _ _ _ _ c.self.invariant c.in-Some.ensures.items c.push_reserved.ensures.items
    (sym (c.push_reserved.ensures.capacity ∙ c.in-Some.ensures.capacity))

pub returns-clause-after : goal.returns-clause-after
returns-clause-after c = rw (← c.self.view_is, c.in-Some.ensures.items, c.push_reserved.ensures.items)
    (cc (files_closed _ _ _))

pub returns-clause-ended : goal.returns-clause-ended
returns-clause-ended c =
    ap (λ (s : FilesInMemory). has_open s.files) (returns-clause-after c) ∙ open_ended c.args.self.now.files

pub returns-clause-taken : goal.returns-clause-taken
returns-clause-taken c =
    ap (λ (s : FilesInMemory). room_of s.files) (returns-clause-after c) ∙ room_ended c.args.self.now.files
