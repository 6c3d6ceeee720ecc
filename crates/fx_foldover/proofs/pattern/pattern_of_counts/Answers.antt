use Rattle.std.proofs.Common.{◌≡◌, ◌+◌, ◌*◌, ◌^◌, ◌∙◌, slice_index, ap}
use Rattle.std.proofs.Common.{arith}
use Rattle.std.proofs.Math.Nat.{one-le-pow}
use Rattle.std.proofs.lemmas.List.{take_all}
use Rattle.fx_designs.specs.Vectors.{vectors_of}
use Rattle.fx_words.specs.Spreads.{spread}
use Rattle.fx_words.proofs.Levels.{length-vectors}
use Rattle.fx_foldover.specs.Foldovers.{combined_pattern, combined_rows}
use Rattle.fx_foldover.proofs.CombinedWords.{length-pattern, pattern-more}
use Rattle.fx_foldover.proofs.pattern.pattern_of_counts.Goals as goal

pub loop-i-preserved : goal.loop-i-preserved
loop-i-preserved c =
    let m = c.args.matrix.now.shape.m in
    let rows = c.args.matrix.now.rows in
    let fold = c.args.fold.now in
    let place = (c.loop-i.i + 1) * c.point_count-points.result in
    let points : c.point_count-points.result ≡ 2 ^ (m + 1) =
    cc (c.point_count-points.ensures.count, c.shape.ensures.shape) in
    let at : place ≡ (c.loop-i.i + 1) * 2 ^ (m + 1) + 0 =
    ap (λ k. (c.loop-i.i + 1) * k) points ∙
    (let e : (c.loop-i.i + 1) * 2 ^ (m + 1) ≡ (c.loop-i.i + 1) * 2 ^ (m + 1) + 0 = omega arith in e) in
    let value : slice_index c.args.counts.now place
    ≡ spread 2 (m + 1) (vectors_of 2 (m + 1) (combined_rows fold rows)) (c.loop-i.i + 1) 0 =
    cc (c.requires.counts.are (c.loop-i.i + 1) 0 (omega arith) (one-le-pow (m + 1) 2 (omega arith))) in
    cc (
      c.in_ok-push.ensures.ok,
      c.loop-i.invariant,
      pattern-more m fold rows c.loop-i.i
          (cc (c.requires.fold, c.requires.complete)) (omega arith),
    )

pub returns : goal.returns
returns c =
    let m = c.args.matrix.now.shape.m in
    let vectors = vectors_of 2 m c.args.matrix.now.rows in
    c.loop-i.invariant
    ∙ take_all c.loop-i.i (combined_pattern m c.args.fold.now vectors)
    (omega (arith, length-pattern m c.args.fold.now vectors, length-vectors 2 m c.args.matrix.now.rows))
