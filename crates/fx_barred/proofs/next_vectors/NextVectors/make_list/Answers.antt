use Rattle.std.proofs.Common.{◌≡◌, ◌<◌, ◌+◌, ◌-◌, ◌*◌, [], length}
use Rattle.std.proofs.Common.{arith}
use Rattle.std.proofs.lemmas.List.{get_or_default}
use Rattle.fx_barred.proofs.Listing.{stands-in, lists-set}
use Rattle.fx_barred.proofs.next_vectors.NextVectors.make_list.Goals as goal

pub places-made-requires-clause-stand : goal.places-made-requires-clause-stand
places-made-requires-clause-stand c =
    let r = c.args.self.now.reached.now in
    let lists = c.args.lists.now in
    let i = length r.rows in
    let x = c.args.source - 4 * i in
    let at : c.args.source ≡ 4 * i + x = omega arith in
    let few : x < 4 = omega arith in
    let there : c.args.source < length lists = omega arith in
    let count : c.len-n.result - c.tail-tail.result ≡ i - (16 - 4 * c.args.l) =
    cc (c.len-n.ensures.count, c.tail-tail.ensures) in
    rw count (stands-in r c.args.self.now.words.now i x (i - (16 - 4 * c.args.l)) c.args.self.now.start
    c.args.self.now.end lists c.args.source
    c.index-lists-source.result c.args.self.now.range c.requires.lists c.args.self.now.room few at
    (omega arith) (omega arith)
    (get_or_default lists c.args.source c.index-lists-source.result [] there))

pub returns-clause-lists : goal.returns-clause-lists
returns-clause-lists c =
    let r = c.args.self.now.reached.now in
    let lists = c.args.lists.now in
    let i = length r.rows in
    let made = c.places-made.result in
    let count : c.len-n.result - c.tail-tail.result ≡ i - (16 - 4 * c.args.l) =
    cc (c.len-n.ensures.count, c.tail-tail.ensures) in
    rw c.len-n.ensures.count
    (lists-set r c.args.self.now.words.now c.args.l lists made c.requires.lists c.args.self.now.room c.requires.some
    (omega arith)
    (λ full.
    rw count at (c.places-made.ensures.stand full)))
