use Rattle.std.proofs.Common.{◌≡◌, ◌<◌, ◌*◌, ◌∙◌, length}
use Rattle.std.proofs.Common.{arith, rules}
use Rattle.fx_judge.proofs.Keys.{size_in, size_out, size_grows}
use Rattle.fx_judge.proofs.combinations.combinations_within.Goals as goal
use Rattle.fx_judge.proofs.combinations.combinations_within.Goals.{then-basic-i+else-size-limit, else-basic-i}

pub returns-then-size-limit : goal.returns-then-size-limit
returns-then-size-limit c =
    let q = c.from-q.ensures ∙ c.q.ensures.order in
    let grows = size_grows c.args.field _ _
    _ (omega arith)
    (size_in c.args.field c.loop-i.size c.args.basic.now c.loop-i.i (omega arith) (search rules) ∙
    c.loop-i.invariant.all) in
    let past : c.args.limit < c.loop-i.size * c.from-q.result = search rules in
    let same : c.loop-i.size * c.from-q.result ≡ c.loop-i.size * c.args.field = cc in
    omega arith

pub loop-i-preserved : goal.loop-i-preserved
loop-i-preserved c =
    let q = c.from-q.ensures ∙ c.q.ensures.order in
    let low : c.loop-i.i < length c.args.basic.now = omega arith in
    elim c.if-basic-i.branch [
      | then-basic-i+else-size-limit w ↦
          let same : c.if-basic-i.size ≡ c.loop-i.size * c.args.field =
          cc w.size-is in
          record {
            all = cc (
              size_in c.args.field c.loop-i.size c.args.basic.now c.loop-i.i low (search rules),
              c.loop-i.invariant.all,
            );
            some = search rules;
            few = search rules;
          }
      | else-basic-i w ↦
          record {
            all = cc (
              w.size-is,
              size_out c.args.field c.loop-i.size c.args.basic.now c.loop-i.i low (search rules),
              c.loop-i.invariant.all,
            );
            some = search rules;
            few = search rules;
          }
    ]
