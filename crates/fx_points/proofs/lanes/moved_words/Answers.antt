use Rattle.std.proofs.Common.{◌≡◌, ℕ, ◌%◌, ◌^◌, ◌<◌, bit_xor, arith, sym, ◌∙◌}
use Rattle.std.proofs.lemmas.Nat.Bits.{shr_and_one}
use Rattle.fx_points.proofs.Bits.{step_one, step_zero}
use Rattle.fx_points.proofs.lanes.moved_words.Goals as goal
use Rattle.fx_points.proofs.lanes.moved_words.Goals.{then-x-b-eq1, else-x-b-eq1}

pub loop-b-preserved : goal.loop-b-preserved
loop-b-preserved c =
    let x = c.args.x in
    let b = c.loop-b.b in
    elim c.if-x-b-eq1.branch [
      | then-x-b-eq1 w ↦ record {
        words = rw w.moved-is w.swapped_words-moved.ensures.words;
        bits = λ k i hk hi.
            let one = sym (shr_and_one x b) ∙ w.if-x-b-eq1.true in
            let s = step_one b x i c.loop-b-test.true c.requires.number hi one in
            cc (
              w.moved-is,
              w.swapped_words-moved.ensures.bits k i hk hi,
              c.loop-b.invariant.bits k (bit_xor i (2 ^ b)) hk s.1,
              s.0,
            );
      }
      | else-x-b-eq1 w ↦ record {
        words = rw w.moved-is c.loop-b.invariant.words;
        bits = λ k i hk hi.
            let s = step_zero b x i c.loop-b-test.true c.requires.number hi
            (λ one. w.if-x-b-eq1.false (shr_and_one x b ∙ one)) in
            cc (w.moved-is, c.loop-b.invariant.bits k i hk hi);
      }
    ]

pub returns-clause-bits : goal.returns-clause-bits
returns-clause-bits c k i hk hi =
    let e = ends c.args.x c.loop-b.b c.requires.number (omega arith) in
    cc (c.loop-b.invariant.bits k i hk hi)
  where
    ends : (x b : ℕ) → x < 64 → b ≡ 6 → x % 2 ^ b ≡ x
    ends x b hx e = rw e (omega arith)
