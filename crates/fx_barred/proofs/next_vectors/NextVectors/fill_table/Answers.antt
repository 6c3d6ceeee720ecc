use Rattle.std.proofs.Common.{ℕ, ◌≡◌, ◌<◌, ◌+◌, ◌*◌, [], length, arith}
use Rattle.std.proofs.lemmas.List.{get_or_default}
use Rattle.fx_barred.proofs.Listing.{stands-in}
use Rattle.fx_barred.proofs.next_vectors.NextVectors.fill_table.Goals as goal

pub fill_soon-requires-clause-stand : goal.fill_soon-requires-clause-stand
fill_soon-requires-clause-stand c =
    let r = c.args.self.now.reached.now in
    let lists = c.args.lists.now in
    let i = length r.rows in
    let place : ℕ = 4 * c.len-n.result in
    let at : place ≡ 4 * i + 0 = omega arith in
    let there : place < length lists =
    omega arith in
    stands-in r c.args.self.now.words.now i 0 i c.args.self.now.start c.args.self.now.end lists place
    c.index-lists-n.result c.args.self.now.range c.requires.lists c.args.self.now.room (omega arith) at (omega arith)
    (omega arith) (get_or_default lists place c.index-lists-n.result [] there)
