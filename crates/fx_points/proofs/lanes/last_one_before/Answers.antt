use Rattle.std.proofs.Common.{arith}
use Rattle.fx_points.proofs.LastOnes.{words_zeros, words_last, last_word}
use Rattle.fx_points.proofs.lanes.last_one_before.Goals as goal

pub returns-then-some-eq0-clause-none : goal.returns-then-some-eq0-clause-none
returns-then-some-eq0-clause-none c =
    words_zeros c.args.words.now c.args.count c.words_with_ones.result c.requires.count c.words_with_ones.ensures.none
    c.if-some-eq0.true

pub bounds-words-from : goal.bounds-words-from
bounds-words-from c =
    let l = last_word c.args.words.now c.args.count c.words_with_ones.result c.requires.count
    c.words_with_ones.ensures.none c.last_bit-last.result c.last_bit-last.ensures in
    let below = l.0 in
    let fits = c.requires.count in
    let is = c.from.ensures in
    omega arith

pub last_bit-requires : goal.last_bit-requires
last_bit-requires c =
    let l = last_word c.args.words.now c.args.count c.words_with_ones.result c.requires.count
    c.words_with_ones.ensures.none c.last_bit-last.result c.last_bit-last.ensures in
    let below = l.0 in
    let fits = c.requires.count in
    rw c.from.ensures (c.words_with_ones.ensures.some c.last_bit-last.result (omega arith) l.1)

pub returns-clause-some : goal.returns-clause-some
returns-clause-some c =
    words_last c.args.words.now c.args.count c.words_with_ones.result c.requires.count c.words_with_ones.ensures.none
    c.last_bit-last.result c.last_bit.result c.last_bit-last.ensures (rw c.from.ensures at c.last_bit.ensures)
