use Rattle.std.proofs.Common.{◌≡◌, ◌+◌, ◌-◌, ◌*◌, ◌/◌, sym, ◌∙◌, arith}
use Rattle.fx_statements.proofs.Bounds.{no_more_than_9}
use Rattle.fx_statements.proofs.ComponentCounts.{are_many, count_first, count_more, next_count, small_next}
use Rattle.fx_statements.proofs.components.are_too_many.Goals as goal

pub loop-k-init : goal.loop-k-init
loop-k-init c =
    let first = count_first c.args.q c.args.s in
    record {
      count = omega arith;
      next = omega arith;
      few = omega arith;
      small = omega arith;
    }

pub returns-then-count-gt-MOST_COMPONENTS : goal.returns-then-count-gt-MOST_COMPONENTS
returns-then-count-gt-MOST_COMPONENTS c =
    let more = count_more c.args.q c.args.s c.loop-k.k in
    sym (are_many c.args.q c.args.s c.loop-k.k c.args.d c.loop-k-test.true
    (omega arith))

pub loop-k-preserved : goal.loop-k-preserved
loop-k-preserved c =
    let h = c.loop-k.invariant in
    let more = count_more c.args.q c.args.s c.loop-k.k in
    let level = no_more_than_9 c.args.q c.requires.level in
    let up : c.loop-k.k + 1 + 1 ≡ c.loop-k.k + 2 = omega arith in
    let is : c.loop-k.next * c.from.result * c.from-in-loop-k.result / (c.from-in-loop-k-2.result + 2)
    ≡ c.loop-k.next * (c.args.s - c.loop-k.k - 1) * (c.args.q - 1) / (c.loop-k.k + 2) =
    cc (c.from.ensures, c.from-in-loop-k.ensures, c.from-in-loop-k-2.ensures) in
    record {
      count = omega arith;
      next = cc (is ∙ next_count c.args.q c.args.s c.loop-k.k c.loop-k.next h.next);
      few = omega arith;
      small = small_next c.loop-k.next _ _ c.loop-k.k _ is (omega arith)
          (omega arith) (omega arith);
    }
