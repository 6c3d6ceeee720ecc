use Rattle.std.proofs.Common.{ℕ, ◌≡◌, ◌<◌, ◌^◌, ◌++◌, ◌∷◌, [], List, All, length, sym, subst, ap, ap₂, ◌∙◌}
use Rattle.std.proofs.Common.{arith, append_assoc, length-append}
use Rattle.std.proofs.lemmas.List.Elements.{All-push}
use Rattle.std.proofs.lemmas.List.FromFn.{map-range_with_len_more}
use Rattle.fx_strata.specs.Canonical.{units}
use Rattle.fx_table_book.specs.Tables.{strata_of}
use Rattle.fx_table_book.proofs.Bases.{power-less}
use Rattle.fx_table_rules.proofs.Shapes.{few-blocks}
use Rattle.fx_table_rules.proofs.rules.all_rows.Goals as goal

pub loop-i-preserved : goal.loop-i-preserved
loop-i-preserved c =
    let i : ℕ = c.loop-i.i in
    let q : ℕ = c.args.base.q in
    let inside : i < c.args.base.m =
    (let a = few-blocks (strata_of c.args.base) in
    let b = c.requires.base.inside in
    let d = c.block_factors-i-end.ensures in
    omega arith) in
    let power : c.power.result ≡ q ^ i = c.power.ensures.power in
    let small : c.power.result < q ^ c.args.base.m =
    (let p = power-less c.args.base c.requires.base i inside in omega arith) in
    record {
      are = c.push.ensures.items ∙ ap₂ (λ (xs : List ℕ) (x : ℕ). xs ++ x ∷ []) c.loop-i.invariant.are power
          ∙ append_assoc c.args.rows.now (units q 0 i) (q ^ i ∷ [])
          ∙ ap (λ (us : List ℕ). c.args.rows.now ++ us)
          (sym (map-range_with_len_more (λ k. q ^ k) 0 i i (omega arith)));
      below = subst (All (λ r. r < q ^ c.args.base.m)) (sym c.push.ensures.items)
          (All-push (λ r. r < q ^ c.args.base.m) c.loop-i.all.items c.power.result c.loop-i.invariant.below small);
      count = ap (λ (l : List ℕ). length l) c.push.ensures.items
          ∙ length-append c.loop-i.all.items (c.power.result ∷ [])
          ∙ (let e = c.loop-i.invariant.count in omega arith);
    }
