use Rattle.std.proofs.Common.{◌<◌, ◌-◌, ◌*◌, [], length, arith}
use Rattle.std.proofs.lemmas.List.{get_or_default}
use Rattle.fx_barred.proofs.Listing.{stands-in}
use Rattle.fx_barred.proofs.next_vectors.NextVectors.fill_by_lists.Goals as goal

pub fill-requires-clause-stand : goal.fill-requires-clause-stand
fill-requires-clause-stand c =
    let r = c.args.self.now.reached.now in
    let lists = c.make_lists-source.new.lists in
    let i = length r.rows in
    let source = c.make_lists-source.result in
    let x = source - 4 * i in
    let few : x < 4 = omega arith in
    let there : source < length lists =
    omega arith in
    stands-in r c.args.self.now.words.now i x i c.args.self.now.start c.args.self.now.end lists source _
    c.args.self.now.range
    c.make_lists-source.ensures.lists c.args.self.now.room few (omega arith) (omega arith)
    (omega arith) (get_or_default lists source _ [] there)
