use Rattle.std.proofs.Common.{rules, ◌≡◌, ◌<◌, ◌+◌, ◌-◌, ◌∙◌, length, drop, All}
use Rattle.std.proofs.Common.{subst, sym, ap, arith}
use Rattle.fx_designs.specs.Components.{normal_vectors}
use Rattle.fx_components.proofs.Enumerating.{behind_zeros, all_long, next_place_in, next_place_out}
use Rattle.fx_components.proofs.Enumerating.{none_before}
use Rattle.fx_components.proofs.components.normal_vectors.Goals as goal

pub with_codes-requires : goal.with_codes-requires
with_codes-requires c =
    let i : c.loop-i.i ≡ c.loop-i.i - 1 + 1 = omega arith in
    subst (All (λ v. c.loop-i.i - 1 < length v))
    (ap (λ k. behind_zeros k (normal_vectors c.args.q (drop c.loop-i.i c.args.support.now))) (sym i) ∙ sym
    c.loop-i.invariant.vectors)
    (all_long (c.loop-i.i - 1) (normal_vectors c.args.q (drop c.loop-i.i c.args.support.now)))

pub loop-i-preserved-then-support-i : goal.loop-i-preserved-then-support-i
loop-i-preserved-then-support-i c =
    let h = next_place_in c.args.q c.args.support.now c.loop-i.i c.loop-i.bound (omega arith) (omega arith)
    (search rules)
    c.loop-i.invariant.bound in
    record {
      vectors = cc (c.in_ok-vectors.ensures, c.loop-i.invariant.vectors);
      bound = h.1;
    }

pub loop-i-preserved : goal.loop-i-preserved
loop-i-preserved c =
    let h = next_place_out c.args.q c.args.support.now c.loop-i.i (omega arith) (omega arith) (search rules) in
    record {
      vectors = cc c.loop-i.invariant.vectors;
      bound = cc c.loop-i.invariant.bound;
    }

pub returns : goal.returns
returns c =
    let none : c.loop-i.i ≡ 0 = omega arith in
    c.loop-i.invariant.vectors ∙ ap (λ i. behind_zeros i (normal_vectors c.args.q (drop i c.args.support.now)))
    none ∙ none_before (normal_vectors c.args.q c.args.support.now)
