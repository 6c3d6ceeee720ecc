use Rattle.std.proofs.lemmas.List.{length-map}
use Rattle.fx_base.specs.Acts.{File}
use Rattle.fx_base.proofs.Flat.{part_here}
use Rattle.fx_base.proofs.file_buffer.FileBuffer.is_ended.Goals as goal

pub returns : goal.returns
returns c =
    let asked = rw (← c.self.view_is) at c.requires in
    let there = rw length-map at asked in
    rw (← c.self.view_is) (part_here (λ (f : File). f.ended) _ _ _ _ there c.index.ensures)
