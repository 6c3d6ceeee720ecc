use Rattle.csv.proofs.RecordFacts.{cut-length}
use Rattle.fx_derived.proofs.pieces.Pieces.len.Goals as goal

pub returns : goal.returns
returns c =
    rw (← c.self.view_is)
    (cc (c.len.ensures, c.self.inside.ends.ok.0, cut-length 0 c.self.inside.ends.items c.self.inside.bytes.items))
