-- Two vectors of a regular plan are aliased or orthogonal.
use Rattle.std.proofs.Common.{ℕ, ◌≡◌, ◌<◌, ◌-◌, ◌*◌, ◌⊎◌, Bool, true, false, cond, ◌&&◌, eqb, List}
use Rattle.std.proofs.Common.{[], ◌∷◌, length, map, get_or, refl, sym, subst, ◌∙◌, ap, arith, inl, inr, mul_comm}
use Rattle.std.specs.Prelude.{count_by}
use Rattle.std.specs.List.{All, list_all, range_with_len}
use Rattle.std.proofs.lemmas.Bool.{cases_Bool, cases_eq, cond-true, cond-false, both_ways, eq-eqb, eqb-true, ne_eqb}
use Rattle.std.proofs.lemmas.List.Folds.{list_any_at}
use Rattle.std.proofs.lemmas.List.FromFn.{length-range_with_len, get_or-range_with_len}
use Rattle.std.proofs.lemmas.List.Elements.{All-from_get_or, All-from_recursion, All-get_or, recursion_from_All}
use Rattle.fx_designs.specs.Galois.{IsField, add, codes_of, mul, neg}
use Rattle.fx_designs.specs.Vectors.{dot, minus, scale}
use Rattle.fx_designs.specs.Runs.{count_of, is_constant}
use Rattle.fx_designs.specs.Aliases.{is_aliased}
use Rattle.fx_laws.specs.Facts.{IsBalanced, IsConstant}
use Rattle.fx_laws.proofs.Blocks.{All-unmap}
use Rattle.fx_laws.proofs.Constant.{constant_decides}
use Rattle.fx_laws.proofs.Linear.{dot_code}
use Rattle.fx_laws.proofs.Sums.{sum_by_map, sum_by-constant, sum_by-ext, sum_by-zero}
use Rattle.fx_laws.proofs.Tables.{is_order-field}
use Rattle.fx_laws.proofs.Tests.{bool_same, range_decides}
use Rattle.fx_judge.specs.declared.kinship.Kinship.TheVariants.{Aliased, Orthogonal, Partial}
use Rattle.fx_judge.specs.Kinships.{are_orthogonal, joint_count, kinship}
use Rattle.fx_judge.specs.Plans.{IsPlan, PlanView}
use Rattle.fx_judge.specs.Regular.{is_regular_plan, row_differences}
use Rattle.fx_judge.proofs.Bases.{dot_sum}
use Rattle.fx_judge.proofs.Crossing.{balanced_count, crossing}
use Rattle.fx_judge.proofs.Even.{count_agree}
use Rattle.fx_judge.proofs.Kinships.{back, dot-minus}
use Rattle.fx_judge.proofs.Marked.{plan_differences, regular_even, stage_at}
use Rattle.fx_judge.proofs.Passing.{plan_zeros}
use Rattle.fx_judge.proofs.Replicas.{constant_or_balanced}
use Rattle.fx_judge.proofs.Stepping.{differences_len}

all_counted : (xs : List (List ℕ)) → count_by (λ x. true) xs ≡ length xs
all_counted xs = sum_by-constant 1 xs ∙ omega arith

both_counted : (s t : Bool) → ◌≡◌ {A = ℕ} (cond (s && t) 1 0) (cond (t && s) 1 0)
both_counted true true = refl
both_counted true false = refl
both_counted false true = refl
both_counted false false = refl

module _ (q : ℕ) (f : IsField q) where
  -- what is constant or balanced over the differences of rows from one vector is so over the rows
  module _ (x0 : List ℕ) (rows : List (List ℕ)) (w : List ℕ) where
    -- what a value is of the difference
    abbrev relative : ℕ → ℕ
    relative y = add q y (mul q (neg q 1) (dot q w x0))

    value : (x : List ℕ) → dot q w (minus q x x0) ≡ relative (dot q w x)
    value x = dot_sum q f w x x0 _

    row_constant : IsConstant q w (map (λ x. minus q x x0) rows) → IsConstant q w rows
    row_constant h = (
      add q h.0 (dot q w x0),
      All-from_get_or (λ x. dot q w x ≡ add q h.0 (dot q w x0)) rows [] (λ k low.
          let x = get_or rows k [] in
          back q f _ _ h.0 (dot_code q f w x) (dot_code q f w x0)
          (sym (value x) ∙ All-get_or (λ x. dot q w (minus q x x0) ≡ h.0) rows k [] low
          (unmapped h.1))),
    )
      where
        unmapped : All (λ d. dot q w d ≡ h.0) (map (λ x. minus q x x0) rows)
            → All (λ x. dot q w (minus q x x0) ≡ h.0) rows
        unmapped k =
            All-from_recursion (λ x. dot q w (minus q x x0) ≡ h.0) rows
            (All-unmap (λ d. dot q w d ≡ h.0) (λ x. minus q x x0) rows
            (recursion_from_All _ _ k))

    row_test : (x : List ℕ) (y : ℕ) → y < q → eqb (dot q w x) y ≡ eqb (dot q w (minus q x x0)) (relative y)
    row_test x y low = bool_same _ _
        (λ t. eq-eqb _ _ (value x ∙ ap relative (eqb-true _ _ t)))
        (λ t. eq-eqb _ _
        (back q f _ _ (relative y) (dot_code q f w x) (dot_code q f w x0)
        (sym (value x) ∙ eqb-true _ _ t)
        ∙ sym (back q f y _ (relative y) low (dot_code q f w x0) refl)))

    row_count : (y : ℕ) → y < q → count_of q w y rows ≡ count_of q w (relative y) (map (λ x. minus q x x0) rows)
    row_count y low =
        cc (
          sum_by-ext (λ x. cond (eqb (dot q w x) y) 1 0) (λ x. cond (eqb (dot q w (minus q x x0)) (relative y)) 1 0)
              rows
              (λ x. cc (row_test x y low)),
          sum_by_map (λ d. cond (eqb (dot q w d) (relative y)) 1 0) (λ x. minus q x x0)
              rows,
        )

    row_balanced : IsBalanced q w (map (λ x. minus q x x0) rows) → IsBalanced q w rows
    row_balanced h = record {
      same = λ y z hy hz.
          cc (row_count y hy, h.same (relative y) (relative z) (f.add_code y _) (f.add_code z _), row_count z hz);
    }

  module _ (rows : List (List ℕ)) where
    -- a vector with one value on all rows is orthogonal to any
    const_left : (u v : List ℕ) → IsConstant q u rows → (a b : ℕ)
        → length rows * joint_count q rows u v a b ≡ count_of q u a rows * count_of q v b rows
    const_left u v h a b = elim (cases_eq h.0 a) [
      | inl e ↦
          let all =
          count_agree (λ x. eqb (dot q u x) a) (λ x. true) rows
          (All-from_get_or (λ x. eqb (dot q u x) a ≡ true) rows [] (λ k low. eq-eqb _ _ (at k low ∙ e)))
          ∙ all_counted rows in
          cc (count_agree (λ x. eqb (dot q u x) a && eqb (dot q v x) b) (λ x. eqb (dot q v x) b) rows
          (All-from_get_or (λ x. (eqb (dot q u x) a && eqb (dot q v x) b) ≡ eqb (dot q v x) b) rows []
          (λ k low. cc (eq-eqb _ _ (at k low ∙ e)))))
      | inr ne ↦
          let none =
          count_agree (λ x. eqb (dot q u x) a) (λ x. false) rows
          (All-from_get_or (λ x. eqb (dot q u x) a ≡ false) rows []
          (λ k low. ne_eqb _ _ (λ e. ne (sym (at k low) ∙ e))))
          ∙ sum_by-zero rows in
          ap (λ n. length rows * n) (count_agree (λ x. eqb (dot q u x) a && eqb (dot q v x) b) (λ x. false) rows
          (All-from_get_or (λ x. (eqb (dot q u x) a && eqb (dot q v x) b) ≡ false) rows []
          (λ k low. cc (ne_eqb _ _ (λ e. ne (sym (at k low) ∙ e)))))
          ∙ sum_by-zero rows) ∙ omega arith ∙ ap (λ n. n * count_of q v b rows) (sym none)
    ]
      where
        at : (k : ℕ) → k < length rows → dot q u (get_or rows k []) ≡ h.0
        at k low = All-get_or (λ x. dot q u x ≡ h.0) rows k [] low h.1

    const_right : (u v : List ℕ) → IsConstant q v rows → (a b : ℕ)
        → length rows * joint_count q rows u v a b ≡ count_of q u a rows * count_of q v b rows
    const_right u v h a b =
        cc (
          sum_by-ext (λ x. cond (eqb (dot q u x) a && eqb (dot q v x) b) 1 0)
              (λ x. cond (eqb (dot q v x) b && eqb (dot q u x) a) 1 0) rows
              (λ x. both_counted (eqb (dot q u x) a) (eqb (dot q v x) b)),
          const_left v u h b a,
          mul_comm (count_of q v b rows) (count_of q u a rows),
        )

  module _ (rows : List (List ℕ)) (u v : List ℕ) where
    abbrev off : ℕ → List ℕ
    off c = minus q u (scale q c v)

    -- where u and v are not aliased, no u - c v is constant
    not_constant : is_aliased q rows u v ≡ false → (c : ℕ) → 0 < c → c < q → IsConstant q (off c) rows → ⊥
    unfolding is_aliased
    not_constant apart c some low h =
        let test : ℕ → Bool = λ c. is_constant q (off c) rows in
        let yes = list_any_at test (range_with_len 1 (q - 1)) (c - 1) 0 (omega (arith, length-range_with_len 1 (q - 1)))
        (subst (λ c. test c ≡ true)
        (sym (get_or-range_with_len 1 (q - 1) (c - 1) 0 (omega arith) ∙ omega arith))
        ((constant_decides q f (off c) rows).1 h)) in
        both_ways _ apart yes

    module _ (each : (w : List ℕ) → IsConstant q w rows ⊎ IsBalanced q w rows)
        (apart : is_aliased q rows u v ≡ false) where
      -- where u is balanced, each u - c v has each value on one in q rows
      flat : (y : ℕ) → y < q → IsBalanced q u rows → (c : ℕ) → c < q → q * count_of q (off c) y rows ≡ length rows
      flat y low bu c hc = elim (cases_eq c 0) [
        | inl z ↦
            let same =
            sum_by-ext (λ x. cond (eqb (dot q (off c) x) y) 1 0) (λ x. cond (eqb (dot q u x) y) 1 0) rows
            (λ x. cc (value_at c z x)) in
            cc (balanced_count q f u rows bu y low)
        | inr ne ↦
            elim (each (off c)) [
              | inl k ↦ absurd (not_constant apart c (omega arith) hc k)
              | inr b ↦ balanced_count q f _ rows b y low
            ]
      ]
        where
          value_at : (c : ℕ) → c ≡ 0 → (x : List ℕ) → dot q (off c) x ≡ dot q u x
          value_at c z x =
              cc (
                dot-minus q f u v c x,
                f.mul_comm 0 (dot q v x),
                f.mul_zero (dot q v x),
                f.mul_zero (neg q 1),
                f.add_zero (dot q u x) (dot_code q f u x),
              )

      at_values : (a b : ℕ) → a < q → b < q
          → length rows * joint_count q rows u v a b ≡ count_of q u a rows * count_of q v b rows
      at_values a b ha hb = elim (each u) [
        | inl k ↦ const_left rows u v k a b
        | inr bu ↦
            elim (each v) [
              | inl k ↦ const_right rows u v k a b
              | inr bv ↦
                  crossing q f u v a b ha hb rows (balanced_count q f u rows bu a ha)
                  (balanced_count q f v rows bv b hb)
                  (λ c hc. flat (add q a (mul q (neg q 1) (mul q c b))) (f.add_code a _) bu c hc)
            ]
      ]

      pub orthogonal : are_orthogonal q rows u v ≡ true
      unfolding are_orthogonal
      orthogonal =
          let at : ℕ → ℕ → Bool =
          λ a b. eqb (length rows * joint_count q rows u v a b) (count_of q u a rows * count_of q v b rows) in
          (range_decides (λ a. list_all (at a) (codes_of q)) q).1
          (λ a ha. (range_decides (at a) q).1 (λ b hb. eq-eqb _ _ (at_values a b ha hb)))

-- from the differences to the rows
rows_of : (q : ℕ) (f : IsField q) (rows : List (List ℕ)) (w : List ℕ)
    → IsConstant q w (row_differences q rows) ⊎ IsBalanced q w (row_differences q rows)
    → IsConstant q w rows ⊎ IsBalanced q w rows
rows_of q f [] w h = h
rows_of q f (x0 ∷ rows) w h = elim h [
  | inl k ↦ inl (row_constant q f x0 (x0 ∷ rows) w k)
  | inr b ↦ inr (row_balanced q f x0 _ w b)
]

pub never_partial : (plan : PlanView) → IsPlan plan → is_regular_plan plan.q plan.rows ≡ true → (u v : List ℕ)
    → kinship plan.q plan.rows u v ≡ Partial → ⊥
never_partial plan h regular u v partial =
    let s = length plan.names in
    let D = row_differences plan.q plan.rows in
    let f = is_order-field plan.q h.order in
    let hd = plan_differences plan h in
    let z = plan_zeros plan h D refl in
    let last = stage_at plan.q f s D hd z s (omega arith) in
    let each = λ (w : List ℕ). rows_of plan.q f plan.rows w
    (constant_or_balanced plan.q f s D last.0 _ hd last.1 z (omega (arith, differences_len plan.q f plan.rows))
    ((regular_even plan h).0 regular) w) in
    let rest = cond (are_orthogonal plan.q plan.rows u v) Orthogonal Partial in
    elim (cases_Bool (is_aliased plan.q plan.rows u v)) [
      | inl t ↦ let bad = sym (cond-true _ Aliased rest t) ∙ partial in
          cc bad
      | inr apart ↦
          let bad =
          sym (cond-false _ Aliased rest apart
          ∙ cond-true _ Orthogonal Partial (orthogonal plan.q f plan.rows u v each apart)) ∙
          partial in
          cc bad
    ]
