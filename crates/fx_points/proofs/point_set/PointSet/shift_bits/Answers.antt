use Rattle.std.proofs.Common.{◌/◌, ◌%◌, bit_xor, eqb, arith, ap, sym, ◌∙◌, slice_index, inl, inr}
use Rattle.std.specs.Int.{bit_at}
use Rattle.std.proofs.lemmas.Bool.{cases_eq}
use Rattle.std.proofs.lemmas.Nat.{xor_lt}
use Rattle.fx_points.specs.Members.{has_is, has_of}
use Rattle.fx_points.proofs.Words.{has_same, has_other, words_set, xor_block, xor_word, xor_place}
use Rattle.fx_points.proofs.point_set.PointSet.shift_bits.Goals as goal

pub bounds-moved-i : goal.bounds-moved-i
bounds-moved-i c =
    xor_block c.loop-i.i c.from-block.result c.loop-i-test.true (omega arith)

pub loop-i-preserved : goal.loop-i-preserved
loop-i-preserved c =
    let i = c.loop-i.i in
    let moved = c.moved_words.result in
    let from = bit_xor i c.from-block.result in
    let len = c.loop-i.invariant.words.len in
    record {
      words = words_set c.loop-i.words i (slice_index moved from) c.loop-i.invariant.words
          (c.moved_words.ensures.words.fit from);
      done = λ y under. elim (cases_eq (y / 64) i) [
        | inl here ↦
            has_same c.loop-i.words i (slice_index moved from) y (omega (arith, c.loop-i-test.true)) here
            ∙ ap (λ k. eqb (bit_at (slice_index moved (bit_xor k c.from-block.result)) (y % 64)) 1) (sym here)
        | inr other ↦
            has_other c.loop-i.words i (slice_index moved from) y other ∙ c.loop-i.invariant.done y (omega arith)
      ];
    }

pub returns-clause-sums : goal.returns-clause-sums
returns-clause-sums c y low =
    let x = c.args.x in
    let self = c.self.inside in
    let number = c.requires.number in
    cc (
      has_is _ y low,
      c.loop-i.invariant.done y (omega (arith, low, c.loop-i-test.false)),
      c.moved_words.ensures.bits (bit_xor (y / 64) c.from-block.result) (y % 64)
          (xor_block (y / 64) c.from-block.result (omega arith) (omega (arith, c.from-block.ensures))) (omega arith),
      c.from-block.ensures,
      xor_word y x,
      xor_place y x,
      has_of c.args.self.now self.field self.m self.words (bit_xor y x) c.self.view_is (xor_lt 10 y x low number),
    )
