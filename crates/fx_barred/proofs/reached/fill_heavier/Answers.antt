use Rattle.std.proofs.Common.{◌≡◌, ◌<◌, ◌+◌, ◌≢◌, ◌∙◌, ℕ, length, set, slice_index_or, length-set, ap, arith}
use Rattle.std.proofs.Common.{inl, inr}
use Rattle.std.proofs.lemmas.Bool.{cases_eq}
use Rattle.std.proofs.lemmas.List.{get_or-set_other, get_or_default}
use Rattle.std.proofs.lemmas.Grind.{get_or-set_at}
use Rattle.fx_points.specs.Points.{no_points}
use Rattle.fx_barred.proofs.Tables.{made_value}
use Rattle.fx_barred.proofs.reached.fill_heavier.Goals as goal

pub loop-w-preserved : goal.loop-w-preserved
loop-w-preserved c =
    let old = c.args.old in
    let w = c.loop-w.w in
    let i = c.loop-w.w + 1 in
    let after = c.loop-w.after in
    let before = c.args.before.now in
    let made = c.fill_set.new.set in
    let there : i < length after = omega arith in
    let other : (k : ℕ) → k ≢ i → slice_index_or (set after i made) k no_points ≡ slice_index_or after k no_points =
    λ k ne. get_or-set_other after i k made no_points ne in
    let fits : old + w + 1 < length before = omega arith in
    let same : c.index-before-old.result ≡ slice_index_or before (old + (w + 1)) no_points =
    c.index-before-old.is ∙ get_or_default before _ c.index-before-old.result no_points fits ∙ ap
    (λ k. slice_index_or before k no_points) (let e : old + w + 1 ≡ old + (w + 1) = omega arith in e) in
    let lighter =
    c.index-before-old-in-loop-w.is ∙ get_or_default before (old + w) c.index-before-old-in-loop-w.result no_points
    (omega arith) in
    record {
      len = length-set after i made ∙ c.loop-w.invariant.len;
      kept = other 0 (λ (e : 0 ≡ i). omega arith) ∙ c.loop-w.invariant.kept;
      later = λ k past. other k (λ (e : k ≡ i). omega arith) ∙ c.loop-w.invariant.later k past;
      next = λ v x low point.
          elim (cases_eq v w) [
            | inl here ↦
                let at : v + 1 ≡ i = omega arith in
                cc (
                  get_or-set_at after i _ made no_points at there,
                  made_value c.args.sums.now.q c.args.sums.now.m
                      c.args.first old w v x c.args.multiples.now before made
                      c.index-before-old.result c.index-before-old-in-loop-w.result (c.fill_set.ensures x point) same
                      lighter here,
                )
            | inr less ↦
                cc (
                  other (v + 1) (λ (e : v + 1 ≡ i). less (omega arith)),
                  c.loop-w.invariant.next v x
                      (omega arith) point,
                )
          ];
    }
