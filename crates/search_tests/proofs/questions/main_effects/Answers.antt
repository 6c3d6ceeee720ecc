use Rattle.std.proofs.Common.{ℕ, ◌≡◌, ◌<◌, ◌≤◌, ◌^◌, List, [], ◌∷◌, true, false, eqb, inl, inr, sym, subst, refl, ap}
use Rattle.std.proofs.Common.{arith, lit<, lit≤}
use Rattle.std.specs.List.{list_any}
use Rattle.std.proofs.lemmas.Bool.{eqb-true, both_ways, or_cases}
use Rattle.std.specs.Int.Count.{ones}
use Rattle.std.proofs.lemmas.List.Elements.{All-from_recursion}
use Rattle.std.proofs.Math.Nat.{pow-le-pow_right}
use Rattle.fx_designs.specs.Galois.{is_order}
use Rattle.fx_vectors.specs.Effects.{factors_of, numbers_of, pair_count}
use Rattle.fx_vectors.specs.Question.{CanBeTold, IsValid}
use Rattle.fx_vectors.specs.declared.shape.Shape.{Shape}
use Rattle.fx_vectors.specs.Shape.{IsShape}
use Rattle.fx_vectors.specs.declared.effect.Effect.{Effect}
use Rattle.fx_vectors.specs.declared.question.Demands.TheVariants.{Effects}
use Rattle.search_tests.proofs.questions.main_effects.Goals as goal

few-pairs : (q : ℕ) → is_order q ≡ true → pair_count q (1 ∷ 2 ∷ []) [] ≤ 2000000
unfolding factors_of ones
few-pairs q order =
    elim (or_cases (eqb q 2) (list_any (λ n. eqb q n) (3 ∷ 4 ∷ 5 ∷ 7 ∷ 8 ∷ 9 ∷ [])) order) [
      | inl e ↦ subst (λ k. pair_count k (1 ∷ 2 ∷ []) [] ≤ 2000000) (sym (eqb-true q 2 e)) (lit≤ tt)
      | inr r0 ↦
          elim (or_cases (eqb q 3) (list_any (λ n. eqb q n) (4 ∷ 5 ∷ 7 ∷ 8 ∷ 9 ∷ [])) r0) [
            | inl e ↦ subst (λ k. pair_count k (1 ∷ 2 ∷ []) [] ≤ 2000000) (sym (eqb-true q 3 e)) (lit≤ tt)
            | inr r1 ↦
                elim (or_cases (eqb q 4) (list_any (λ n. eqb q n) (5 ∷ 7 ∷ 8 ∷ 9 ∷ [])) r1) [
                  | inl e ↦ subst (λ k. pair_count k (1 ∷ 2 ∷ []) [] ≤ 2000000) (sym (eqb-true q 4 e)) (lit≤ tt)
                  | inr r2 ↦
                      elim (or_cases (eqb q 5) (list_any (λ n. eqb q n) (7 ∷ 8 ∷ 9 ∷ [])) r2) [
                        | inl e ↦ subst (λ k. pair_count k (1 ∷ 2 ∷ []) [] ≤ 2000000) (sym (eqb-true q 5 e)) (lit≤ tt)
                        | inr r3 ↦
                            elim (or_cases (eqb q 7) (list_any (λ n. eqb q n) (8 ∷ 9 ∷ [])) r3) [
                              | inl e ↦ subst (λ k. pair_count k (1 ∷ 2 ∷ []) [] ≤ 2000000) (sym (eqb-true q 7 e))
                                  (lit≤ tt)
                              | inr r4 ↦
                                  elim (or_cases (eqb q 8) (list_any (λ n. eqb q n) (9 ∷ [])) r4) [
                                    | inl e ↦ subst (λ k. pair_count k (1 ∷ 2 ∷ []) [] ≤ 2000000) (sym (eqb-true q 8 e))
                                        (lit≤ tt)
                                    | inr r5 ↦
                                        elim (or_cases (eqb q 9) (list_any (λ n. eqb q n) ([])) r5) [
                                          | inl e ↦ subst (λ k. pair_count k (1 ∷ 2 ∷ []) [] ≤ 2000000)
                                              (sym (eqb-true q 9 e)) (lit≤ tt)
                                          | inr r6 ↦
                                              absurd (both_ways false refl r6)
                                        ]
                                  ]
                            ]
                      ]
                ]
          ]
    ]

askable : (q s : ℕ) → 2 ≤ s → pair_count q (1 ∷ 2 ∷ []) [] ≤ 2000000 → CanBeTold q s (1 ∷ 2 ∷ []) []
unfolding factors_of ones
askable q s two pairs =
    let wide : 2 ^ 2 ≤ 2 ^ s = pow-le-pow_right (lit≤ tt) two in
    let four : 2 ^ 2 ≡ 4 = refl in
    record {
      some = omega arith;
      estimated =
          record {
            each = All-from_recursion (λ e. (0 < e) × (e < 2 ^ s)) (1 ∷ 2 ∷ [])
                ((lit< tt, omega arith), ((lit< tt, omega arith), tt));
            in_order = refl;
          };
      others = record { each = All-from_recursion (λ e. (0 < e) × (e < 2 ^ s)) [] tt; in_order = refl };
      apart = refl;
      pairs = pairs;
    }

valid : (shape : Shape) (estimate others : List Effect) → IsShape shape → 2 ≤ shape.s
    → pair_count shape.q (1 ∷ 2 ∷ []) [] ≤ 2000000 → numbers_of estimate ≡ 1 ∷ 2 ∷ [] → numbers_of others ≡ []
    → IsValid (record { shape = shape; demands = Effects estimate others; least = false })
valid shape estimate others shaped two pairs e o =
    record { shaped = shaped; asked = rw (e, o) (askable shape.q shape.s two pairs); least = λ h. absurd (cc) }

pub returns-clause-valid : goal.returns-clause-valid
returns-clause-valid c =
    valid c.args.shape c.in_ok-estimate.estimate c.new.result c.requires.shaped c.requires.factors
    (few-pairs c.args.shape.q c.requires.shaped.order) (ap numbers_of c.in_ok-estimate.ensures)
    (ap numbers_of c.new.ensures)
