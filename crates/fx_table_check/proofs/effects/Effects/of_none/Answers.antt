use Rattle.std.proofs.Common.{ℕ, ◌≡◌, ◌<◌, ◌≤◌, List, length, slice_index, sym, subst, ◌∙◌, arith, inl, inr}
use Rattle.std.specs.Prelude.{min, []}
use Rattle.fx_words.specs.Spreads.{spread}
use Rattle.std.proofs.lemmas.Bool.{cases_eq}
use Rattle.std.proofs.lemmas.Grind.{get_or-set_at}
use Rattle.std.proofs.lemmas.List.{get_or-set_other, length-set}
use Rattle.fx_table_check.specs.Effects.{AreFew}
use Rattle.fx_table_check.proofs.UpToTwo.{none-start, zero-start, heavy-start}
use Rattle.fx_table_check.proofs.effects.Effects.of_none.Goals as goal

are-few : (size n : ℕ) (zeros : List ℕ) → size ≤ n → length zeros ≡ n → ((i : ℕ) → i < n → slice_index zeros i ≡ 0)
    → AreFew size zeros
are-few size n zeros low len are = record {
  len = omega arith;
  few = λ x below. (omega (arith, are x (omega arith)));
}

pub returns-clause-capped : goal.returns-clause-capped
returns-clause-capped c = record {
  none = record {
    len = omega (arith, length-set c.zeros-none.result 0 1);
    few = λ x low. elim (cases_eq x 0) [
      | inl here ↦
          (omega (arith, get_or-set_at c.zeros-none.result 0 x 1 0 here (omega arith)))
      | inr other ↦
          (let e = get_or-set_other c.zeros-none.result 0 x 1 0 other in
          omega (arith, c.zeros-none.ensures.zeros x (omega arith)))
    ];
  };
  ones = are-few _ _ c.zeros.result c.requires.shaped.runs c.zeros.ensures.len c.zeros.ensures.zeros;
  twos = are-few _ _ c.zeros-2.result c.requires.shaped.runs c.zeros-2.ensures.len c.zeros-2.ensures.zeros;
}

pub returns-clause-counted : goal.returns-clause-counted
returns-clause-counted c = record {
  none = λ x low. elim (cases_eq x 0) [
    | inl here ↦
        get_or-set_at c.zeros-none.result 0 x 1 0 here (omega arith)
        ∙ subst (λ n. 1 ≡ min 2 (spread c.args.base.q c.args.base.m [] 0 n)) (sym here)
        (zero-start c.args.base.q c.args.base.m)
    | inr other ↦
        cc (
          get_or-set_other c.zeros-none.result 0 x 1 0 other,
          c.zeros-none.ensures.zeros x (omega arith),
          none-start
              c.args.base.q c.args.base.m x other,
        )
  ];
  ones = λ x low. c.zeros.ensures.zeros x (omega arith)
      ∙ heavy-start c.args.base.q c.args.base.m 0 x;
  twos = λ x low. c.zeros-2.ensures.zeros x (omega arith)
      ∙ heavy-start c.args.base.q c.args.base.m 1 x;
}
