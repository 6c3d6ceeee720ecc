use Rattle.std.proofs.Common.{rules, true, get_or, take, drop, ◌-◌}
use Rattle.fx_rules.proofs.Spelled.{word_ends, word_goes_on}
use Rattle.fx_rules.proofs.reading.read_text.Goals as goal
use Rattle.fx_rules.proofs.reading.read_text.Goals.{then-not-goes_on+in_ok-reading, else-not-goes_on}

pub loop-i-preserved : goal.loop-i-preserved
loop-i-preserved c =
    let factors = c.args.factors.now in
    let text = c.args.text.now in
    let from = c.loop-i.from in
    let b = get_or text c.loop-i.i 0 in
    let word = take (c.loop-i.i - from) (drop from text) in
    elim c.if-not-goes_on.branch [
      | then-not-goes_on+in_ok-reading w ↦
          let h = word_ends factors text _ c.loop-i.reading w.in_ok-reading.reading from w.begin_at-from.result
          c.loop-i.i
          c.loop-i-test.true (search rules) (search rules) w.begin_at-from.ensures c.loop-i.invariant in
          rw (w.reading-is, w.from-is) h
      | else-not-goes_on w ↦
          let h = word_goes_on factors text _ c.loop-i.reading from c.loop-i.i c.loop-i-test.true (search rules)
          c.loop-i.invariant in
          rw (w.reading-is, w.from-is) h
    ]
