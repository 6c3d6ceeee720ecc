use Rattle.std.proofs.Common.{ℕ, ◌≡◌, ◌+◌, ◌-◌, ◌++◌, ◌∷◌, [], ◌∙◌, List, map, set, ap, arith, append_assoc}
use Rattle.std.specs.List.{range_with_len}
use Rattle.std.proofs.lemmas.List.FromFn.{map-range_with_len_more}
use Rattle.fx_components.proofs.components.put_codes.Goals as goal

pub loop-c-preserved : goal.loop-c-preserved
loop-c-preserved c =
    let with : ℕ → List ℕ = λ k. set c.args.v.now c.args.i k in
    let n = c.loop-c.c - 1 in
    let next : c.loop-c.c + 1 - 1 ≡ n + 1 = omega arith in
    record {
      from = omega arith;
      to = omega arith;
      so_far =
          cc (
            c.in_ok-push.ensures.ok,
            c.loop-c.invariant.so_far,
            c.with_code.ensures,
            append_assoc c.args.longer.now
                (map with (range_with_len 1 n)) (with c.loop-c.c ∷ []),
            map-range_with_len_more with 1 n c.loop-c.c
                (omega arith),
          );
    }

pub returns : goal.returns
returns c =
    let all : c.loop-c.c - 1 ≡ c.args.bound - 1 = omega arith in
    c.loop-c.invariant.so_far ∙ ap
    (λ k. c.args.longer.now ++ map (set c.args.v.now c.args.i) (range_with_len 1 k)) all
