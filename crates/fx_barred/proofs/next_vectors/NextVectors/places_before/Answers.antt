use Rattle.std.proofs.Common.{◌≡◌, ◌∙◌, length, ap, arith}
use Rattle.fx_barred.proofs.Tables.{written}
use Rattle.fx_barred.proofs.Keeping.{before-next, before-end}
use Rattle.fx_barred.proofs.next_vectors.NextVectors.places_before.Goals as goal

pub loop-k-preserved : goal.loop-k-preserved
loop-k-preserved c =
    let r = c.args.self.now.reached.now in
    let words = c.args.self.now.words.now in
    let k = c.loop-k.k in
    let len =
    c.add_before.ensures.len ∙ ap length c.as_mut_slice.ensures.value in
    let new = written c.loop-k.slots.len c.add_before.new.slots c.loop-k.slots.items len
    (omega arith) in
    let has =
    c.args.self.now.range.has k (omega arith) c.loop-k-test.true in
    record {
      len = cc c.loop-k.invariant.len;
      listed =
          before-next r.q r.m r.rows words _ c.args.depth c.args.self.now.start k c.loop-k.list
          c.add_before.new.list has c.if-not-add_before.ensures.added c.loop-k.invariant.listed;
    }

pub returns : goal.returns
returns c = λ _.
    (let r = c.args.self.now.reached.now in
    let words = c.args.self.now.words.now in
    let range = c.args.self.now.range in
    let le = range.le in
    let end : c.loop-k.k ≡ c.args.self.now.end = omega arith in
    before-end r.q r.m r.rows words _ c.args.depth c.args.self.now.start c.args.self.now.end c.loop-k.list
    range
    (rw end at c.loop-k.invariant.listed))
