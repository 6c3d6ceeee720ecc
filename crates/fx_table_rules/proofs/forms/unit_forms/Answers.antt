use Rattle.std.proofs.Common.{◌<◌, ◌^◌, ◌∷◌, [], List, ℕ, All, length, sym, subst, ap, ◌∙◌, arith, length-append}
use Rattle.std.proofs.lemmas.List.Elements.{All-push}
use Rattle.fx_vectors.proofs.Limits.{indexes_fit}
use Rattle.fx_table_book.specs.Tables.{shape_of}
use Rattle.fx_table_book.proofs.Bases.{power-less}
use Rattle.fx_table_rules.proofs.forms.unit_forms.Goals as goal

pub push-requires : goal.push-requires
push-requires c =
    let few = indexes_fit (shape_of c.args.base) c.requires.shaped in
    let low : length c.loop-i.forms.items < 10 = omega (arith, few, c.loop-i.invariant.count, c.loop-i-test.true) in
    (omega arith, low)

pub loop-i-preserved : goal.loop-i-preserved
loop-i-preserved c =
    let small : c.power.result < c.args.base.q ^ c.args.base.m =
    (let p = power-less c.args.base c.requires c.loop-i.i (omega arith) in let e = c.power.ensures.power in omega arith) in
    record {
      count = ap (λ (l : List ℕ). length l) c.push.ensures.items ∙ length-append c.loop-i.forms.items (c.power.result ∷ [])
          ∙ (let e = c.loop-i.invariant.count in omega arith);
      below = subst (All (λ a. a < c.args.base.q ^ c.args.base.m)) (sym c.push.ensures.items)
          (All-push (λ a. a < c.args.base.q ^ c.args.base.m) c.loop-i.forms.items c.power.result
          c.loop-i.invariant.below small);
    }
