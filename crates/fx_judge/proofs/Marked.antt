-- Each plan has directions after all of its factors, so that it is regular exactly where the codes at its basic factors
-- come equally often.
use Rattle.std.proofs.Common.{ℕ, zero, suc, ◌≡◌, ◌<◌, ◌≤◌, ◌^◌, ◌↔◌, Bool, true, false, List, [], ◌∷◌}
use Rattle.std.proofs.Common.{length, get_or, refl, arith, inl, inr, replicate}
use Rattle.std.specs.List.{All, list_all}
use Rattle.std.proofs.lemmas.Bool.{cases_Bool, both_ways, eq-eqb}
use Rattle.std.proofs.lemmas.List.Elements.{All-from_get_or}
use Rattle.fx_designs.specs.Galois.{IsField, neg}
use Rattle.fx_designs.specs.Vectors.{IsVector, zeros}
use Rattle.fx_laws.proofs.Space.{plus-vector, scale-vector}
use Rattle.fx_laws.proofs.Tables.{is_order-field}
use Rattle.fx_judge.specs.Bases.{AreEven, column, rank}
use Rattle.fx_judge.specs.Plans.{IsPlan, PlanView}
use Rattle.fx_judge.specs.Regular.{row_differences, is_regular_plan}
use Rattle.fx_judge.specs.Rules.{basic_among, gives}
use Rattle.fx_judge.proofs.Bases.{IsMade, IsStage}
use Rattle.fx_judge.proofs.Growing.{goes_on, grows}
use Rattle.fx_judge.proofs.Stepping.{starts, differences_at, differences_len}
use Rattle.fx_judge.proofs.Passing.{plan_zeros}
use Rattle.fx_judge.proofs.Even.{combinations_fit, even_if_regular, regular_if_even}

some_fails : {X : Type 0} (p : X → Bool) (xs : List X) (d : X) → list_all p xs ≡ false
    → (k : ℕ) × (k < length xs) × (p (get_or xs k d) ≡ false)
some_fails p [] d e = cc e
some_fails p (x ∷ xs) d e = elim (cases_Bool (p x)) [
  | inl t ↦ let rest = some_fails p xs d (cc) in
      (suc rest.0, omega arith, rest.2)
  | inr n ↦ (0, omega arith, n)
]

module _ (q : ℕ) (f : IsField q) (s : ℕ) (D : List (List ℕ)) (hd : All (λ d. IsVector q s d) D)
    (z : IsMade q D (zeros s)) where
  renamed : (rows : List (List ℕ)) (b : List Bool) (n : ℕ) → IsStage q s D rows b n
      → IsStage q s D rows (basic_among q s D n) n
  renamed rows b n h = rw h.basics at h

  pub stage_at : (n : ℕ) → n ≤ s → (rows : List (List ℕ)) × IsStage q s D rows (basic_among q s D n) n
  stage_at zero h = (replicate s (zeros s), starts q f s D z)
  stage_at (suc n) h =
      let before = stage_at n (omega arith) in
      let low : n < s = omega arith in
      elim (cases_Bool (gives q D n (column n before.0))) [
        | inl t ↦ (before.0, renamed before.0 _ _ (goes_on q f s D before.0 _ n hd before.1 low z t))
        | inr e ↦
            let off = some_fails _ D [] e in
            let new = grows q f s D before.0 _ n hd before.1 low z off.0 off.1
            (λ is. both_ways _ off.2 (eq-eqb _ _ is)) in
            (_, renamed _ _ _ new)
      ]

-- the differences are vectors
pub plan_differences : (plan : PlanView) → IsPlan plan
    → All (λ d. IsVector plan.q (length plan.names) d) (row_differences plan.q plan.rows)
plan_differences plan h =
    let s = length plan.names in
    let f = is_order-field plan.q h.order in
    All-from_get_or (λ d. IsVector plan.q s d) _ [] (λ k low.
    let there : k < length plan.rows = omega (arith, differences_len plan.q f plan.rows) in
    rw (differences_at plan.q f plan.rows k there)
    (plus-vector plan.q s f _ _ (h.each k [] there)
    (scale-vector plan.q s f (neg plan.q 1) _ (h.each 0 [] (omega arith)))))

pub regular_even : (plan : PlanView) → IsPlan plan
    → (is_regular_plan plan.q plan.rows ≡ true)
    ↔ AreEven plan.q (basic_among plan.q (length plan.names) (row_differences plan.q plan.rows) (length plan.names))
    (row_differences plan.q plan.rows)
regular_even plan h =
    let s = length plan.names in
    let D = row_differences plan.q plan.rows in
    let f = is_order-field plan.q h.order in
    let long = differences_len plan.q f plan.rows in
    let hd = plan_differences plan h in
    let z = plan_zeros plan h D refl in
    let last = stage_at plan.q f s D hd z s (omega arith) in
    let full : 0 < length D = omega arith in (
      even_if_regular plan.q f s D last.0 _ hd last.1 z full,
      regular_if_even plan.q f s D last.0 _ hd last.1 z full,
    )

-- there are at least as many rows as combinations of codes at the basic factors, where these come equally often
pub even_fits : (plan : PlanView) → IsPlan plan
    → AreEven plan.q (basic_among plan.q (length plan.names) (row_differences plan.q plan.rows) (length plan.names))
    (row_differences plan.q plan.rows)
    → plan.q ^ rank (basic_among plan.q (length plan.names) (row_differences plan.q plan.rows) (length plan.names))
    ≤ length (row_differences plan.q plan.rows)
even_fits plan h even =
    let s = length plan.names in
    let D = row_differences plan.q plan.rows in
    let f = is_order-field plan.q h.order in
    let hd = plan_differences plan h in
    let z = plan_zeros plan h D refl in
    let last = stage_at plan.q f s D hd z s (omega arith) in
    combinations_fit plan.q f s D last.0 _ hd last.1 z (omega (arith, differences_len plan.q f plan.rows)) even

-- there is a mark for each factor
pub marks_long : (plan : PlanView) → IsPlan plan
    → length (basic_among plan.q (length plan.names) (row_differences plan.q plan.rows) (length plan.names))
    ≡ length plan.names
marks_long plan h =
    let s = length plan.names in
    let D = row_differences plan.q plan.rows in
    (stage_at plan.q (is_order-field plan.q h.order) s D (plan_differences plan h) (plan_zeros plan h D refl) s
    (omega arith)).1.marks
