use Rattle.std.proofs.lemmas.List.{length-map}
use Rattle.fx_base.specs.Acts.{File}
use Rattle.fx_base.proofs.Flat.{within_here, part_here}
use Rattle.fx_base.proofs.file_buffer.FileBuffer.content.Goals as goal

pub part-requires : goal.part-requires
part-requires c =
    let asked = rw (← c.self.view_is) at c.requires in
    let there = rw length-map at asked in
    let w = within_here _ _ _ _ c.self.invariant.within there c.index-at.ensures in
    record { order = w.content; within = rw c.deref.ensures.value (w.end) }

pub returns : goal.returns
returns c =
    let asked = rw (← c.self.view_is) at c.requires in
    let there = rw length-map at asked in
    rw (← c.self.view_is, c.part.ensures, c.deref.ensures.value)
    (part_here (λ (f : File). f.content) _ _ _ _ there c.index-at.ensures)
