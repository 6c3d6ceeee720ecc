-- The nodes of a job, by what a job is.
use Rattle.std.proofs.Common.{◌≡◌, ◌+◌, ltb, length, arith}
use Rattle.std.proofs.lemmas.Bool.{and_parts, ltb-true}
use Rattle.std.proofs.lemmas.List.{length-take-le}
use Rattle.fx_designs.specs.Galois.{IsField}
use Rattle.fx_designs.specs.Problems.{Problem}
use Rattle.fx_designs.specs.Demands.{is_allowed}
use Rattle.fx_designs.specs.Nodes.{lot_of}
use Rattle.fx_tree.specs.Laws.{NodesOfJob}
use Rattle.fx_tree.proofs.Lot.{job-nodes}

pub nodes-of-job : (p : Problem) → IsField p.dimensions.q → NodesOfJob p
nodes-of-job p f j job last =
    let short =
    ltb-true _ _
    (and_parts (ltb (length (lot_of p.dimensions j)) (p.dimensions.s + p.dimensions.t)) _
    (and_parts (is_allowed p.dimensions p.requirement (lot_of p.dimensions j)) _ job.lot).1).0 in
    let long : length (lot_of p.dimensions j) ≡ p.dimensions.m + 1 =
    length-take-le (p.dimensions.m + 1) j (omega (arith, job.rows)) in
    job-nodes p f (omega (arith, short)) j job.rows (omega (arith, short, long)) job.canonical job.lot last
