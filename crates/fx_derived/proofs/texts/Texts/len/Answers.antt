use Rattle.std.proofs.Common.{sym}
use Rattle.fx_derived.proofs.Packed.{length-unpacked}
use Rattle.fx_derived.proofs.texts.Texts.len.Goals as goal

pub returns : goal.returns
returns c = rw (← c.self.view_is) (sym (length-unpacked c.self.inside.len c.self.inside.bytes.items))
