use Rattle.std.proofs.Common.{arith}
use Rattle.std.proofs.lemmas.List.{length-map}
use Rattle.fx_base.specs.Acts.{File}
use Rattle.fx_base.proofs.Flat.{within_here, part_here}
use Rattle.fx_base.proofs.file_buffer.FileBuffer.name.Goals as goal

pub part-requires : goal.part-requires
part-requires c =
    let asked = rw (← c.self.view_is) at c.requires in
    let there = rw length-map at asked in
    let w = within_here _ _ _ _ c.self.invariant.within there c.index-at.ensures in
    record {
      order = w.name;
      within = rw c.deref.ensures.value (let content = w.content in let end = w.end in omega arith);
    }

pub returns : goal.returns
returns c =
    let asked = rw (← c.self.view_is) at c.requires in
    let there = rw length-map at asked in
    rw (← c.self.view_is, c.part.ensures, c.deref.ensures.value)
    (part_here (λ (f : File). f.name) _ _ _ _ there c.index-at.ensures)
