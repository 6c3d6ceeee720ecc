-- Where two vectors and their differences are balanced, each two values come together as often as is expected: each
-- pair of values is on one more line than there are codes, and each line has as many rows.
use Rattle.std.proofs.Common.{ℕ, suc, ◌≡◌, ◌<◌, ◌+◌, ◌*◌, Bool, true, false, cond, ◌&&◌, eqb, List}
use Rattle.std.proofs.Common.{[], ◌∷◌, length, refl, sym, ◌∙◌, ap, ap₂, arith, inl, inr, mul_assoc}
use Rattle.std.proofs.Common.{mul_left_comm}
use Rattle.std.specs.Prelude.{count_by}
use Rattle.std.specs.List.{range_with_len, sum_by}
use Rattle.std.proofs.Math.Nat.{eq_of_mul-eq-mul_left}
use Rattle.std.proofs.lemmas.Bool.{cases_eq, eq-eqb, eqb-true, ne_eqb}
use Rattle.std.proofs.lemmas.List.FromFn.{length-range_with_len}
use Rattle.std.proofs.lemmas.List.Sums.{sum_by-cons}
use Rattle.std.proofs.lemmas.List.Elements.{All-from_get_or}
use Rattle.fx_designs.specs.Galois.{IsField, add, codes_of, inv, mul, neg}
use Rattle.fx_designs.specs.Vectors.{dot, minus, scale}
use Rattle.fx_designs.specs.Runs.{count_of}
use Rattle.fx_laws.specs.Facts.{IsBalanced}
use Rattle.fx_laws.proofs.Linear.{add-add, dot_code, zero-add-code}
use Rattle.fx_laws.proofs.Sums.{sum_by-constant, sum_by-ext, sum_by-pick, sum_by-plus, sum_by-same, sum_by-zero}
use Rattle.fx_laws.proofs.Tests.{bool_same}
use Rattle.fx_judge.specs.Kinships.{joint_count}
use Rattle.fx_judge.proofs.Kinships.{back, cancelled, dot-minus, less}
use Rattle.fx_judge.proofs.Pigeons.{total}

sum_const : (k a n : ℕ) → sum_by (λ (z : ℕ). k) (range_with_len a n) ≡ n * k
sum_const k a n = cc (sum_by-constant k (range_with_len a n), length-range_with_len a n)

-- how many codes pass a test that is the same at each, and one that a single code passes
same_tests : (p : ℕ → Bool) (t : Bool) (q : ℕ) → ((c : ℕ) → p c ≡ t)
    → sum_by (λ c. cond (p c) 1 0) (codes_of q) ≡ q * cond t 1 0
same_tests p t q same =
    sum_by-ext (λ c. cond (p c) 1 0) (λ c. cond t 1 0) (codes_of q) (λ c. cc (same c))
    ∙ sum_const (cond t 1 0) 0 q

one_test : (p : ℕ → Bool) (z q : ℕ) → z < q → ((c : ℕ) → c < q → p c ≡ eqb c z)
    → sum_by (λ c. cond (p c) 1 0) (codes_of q) ≡ 1
one_test p z q low same =
    sum_by-same (λ c. cond (p c) 1 0) (λ c. cond (eqb c z) 1 0) 0 q
    (λ c from to. cc (same c (omega arith)))
    ∙ sum_by-pick (λ c. 1) z 0 q (omega arith) (omega arith)

-- how many lines pass both of two points, where one is above the other and where not
above_sum : (q lines upright both here : ℕ) → lines ≡ q * here → upright ≡ 1 → both ≡ here
    → lines + upright ≡ 1 + q * both
above_sum q lines upright both here hl he hb =
    ap₂ (λ x y. x + y) hl he ∙ omega arith ∙ ap (λ x. 1 + q * x) (sym hb)

apart_sum : (q lines upright both : ℕ) → lines ≡ 1 → upright ≡ 0 → both ≡ 0 → lines + upright ≡ 1 + q * both
apart_sum q lines upright both hl he hb =
    ap₂ (λ x y. x + y) hl he ∙ omega arith ∙ ap (λ x. 1 + q * x) (sym hb)

module _ (q : ℕ) (f : IsField q) where
  -- minus y
  abbrev minus_one : ℕ → ℕ
  minus_one y = mul q (neg q 1) y

  cancel_out : (p x y : ℕ) → p < q → add q (add q p x) (add q (minus_one p) y) ≡ add q y x
  cancel_out p x y h =
      cc (add-add q f p x (minus_one p) y, less q f p h, zero-add-code q f _ (f.add_code x y), f.add_comm x y)

  cancel_in : (a x y : ℕ) → y < q → add q (add q a (minus_one y)) (add q x y) ≡ add q a x
  cancel_in a x y h =
      cc (
        add-add q f a (minus_one y) x y,
        f.add_comm (minus_one y) y,
        less q f y h,
        f.add_zero (add q a x) (f.add_code a x),
      )

  -- c times b - B
  product : (c b B : ℕ) → mul q c (add q b (minus_one B)) ≡ add q (mul q c b) (minus_one (mul q c B))
  product c b B =
      cc (f.distributes c b (minus_one B), f.mul_assoc c (neg q 1) B, f.mul_comm c (neg q 1), f.mul_assoc (neg q 1) c B)

  module _ (A B a b : ℕ) (hA : A < q) (hB : B < q) (ha : a < q) (hb : b < q) where
    abbrev test : ℕ → Bool
    test c = eqb (add q A (minus_one (mul q c B))) (add q a (minus_one (mul q c b)))

    abbrev slope : ℕ
    slope = mul q (add q a (minus_one A)) (inv q (add q b (minus_one B)))

    module _ (apart : B ≡ b → ⊥) where
      abbrev gap : ℕ
      gap = add q b (minus_one B)

      gap_some : 0 < gap
      gap_some = elim (cases_eq gap 0) [
        | inl e ↦ absurd (apart (sym (back q f b B 0 hb hB e ∙ zero-add-code q f B hB)))
        | inr ne ↦ omega arith
      ]

      inverse : mul q gap (inv q gap) ≡ 1
      inverse = f.mul_inv gap gap_some (f.add_code b (minus_one B))

      rise : (c : ℕ) → c < q → add q A (minus_one (mul q c B)) ≡ add q a (minus_one (mul q c b))
          → mul q c gap ≡ add q a (minus_one A)
      rise c hc e =
          cc (
            product c b B,
            cancel_out A (minus_one (mul q c B)) (mul q c b) hA,
            cancel_in a (minus_one A) _ (f.mul_code c b),
          )

      fall : (c : ℕ) → mul q c gap ≡ add q a (minus_one A)
          → add q A (minus_one (mul q c B)) ≡ add q a (minus_one (mul q c b))
      fall c e =
          let there = sym (product c b B) ∙ e in
          cc (
            cancel_out _ (minus_one (mul q c B)) A (f.mul_code c b),
            cancel_in a (minus_one (mul q c b)) A hA,
          )

      -- one line through both points, but for the upright one
      one_line : (c : ℕ) → c < q → test c ≡ eqb c slope
      one_line c hc = bool_same _ _
          (λ t. eq-eqb c slope
          (cc (f.mul_one c hc, inverse, f.mul_assoc c gap (inv q gap), rise c hc (eqb-true _ _ t))))
          (λ t. eq-eqb _ _ (fall c
          (cc (
            eqb-true _ _ t,
            f.mul_assoc (add q a (minus_one A)) (inv q gap) gap,
            f.mul_comm (inv q gap) gap,
            inverse,
            f.mul_one (add q a (minus_one A)) (f.add_code a (minus_one A)),
          ))))

    -- all lines, where the two points are one above the other
    same_line : B ≡ b → (c : ℕ) → test c ≡ eqb A a
    same_line e c = bool_same _ _
        (λ t. eq-eqb A a
        (cc (cancelled q f A z hA low, eqb-true _ _ t, cancelled q f a z ha low)))
        (λ t. eq-eqb _ _ (ap₂ (add q) (eqb-true _ _ t) turn))
      where
        z : ℕ
        z = minus_one (mul q c B)

        low : minus_one (mul q c B) < q
        low = f.mul_code (neg q 1) (mul q c B)

        turn : minus_one (mul q c B) ≡ minus_one (mul q c b)
        turn = cc

    -- of the q + 1 lines through (a, b) all pass (A, B), where that is the same point, and else one does
    lines_at : sum_by (λ c. cond (test c) 1 0) (codes_of q) + cond (eqb B b) 1 0 ≡ 1 + q * cond (eqb A a && eqb B b) 1 0
    lines_at = elim (cases_eq B b) [
      | inl e ↦
          above_sum q _ _ _ _ (same_tests test _ q (same_line e)) (cc (eq-eqb B b e))
          (cc (eq-eqb B b e, and_true (eqb A a)))
      | inr ne ↦
          let one =
          one_test test slope q (f.mul_code (add q a (minus_one A)) (inv q (add q b (minus_one B)))) (one_line ne) in
          apart_sum q _ _ _ one (cc (ne_eqb B b ne)) (cc (ne_eqb B b ne, and_false (eqb A a)))
    ]
      where
        and_true : (t : Bool) → ◌≡◌ {A = ℕ} (cond (t && true) 1 0) (cond t 1 0)
        and_true true = refl
        and_true false = refl

        and_false : (t : Bool) → ◌≡◌ {A = ℕ} (cond (t && false) 1 0) 0
        and_false true = refl
        and_false false = refl

  module _ (u v : List ℕ) (a b : ℕ) (ha : a < q) (hb : b < q) where
    abbrev off : ℕ → List ℕ
    off c = minus q u (scale q c v)

    abbrev line : ℕ → ℕ
    line c = add q a (minus_one (mul q c b))

    abbrev on : ℕ → List ℕ → Bool
    on c x = eqb (dot q (off c) x) (line c)

    step : (s l2 d1 d2 n j1 j2 : ℕ) → s + d1 ≡ 1 + q * j1 → l2 + d2 ≡ n + q * j2
        → (s + l2) + (d1 + d2) ≡ suc n + q * (j1 + j2)
    step s l2 d1 d2 n j1 j2 e h = grind (arith, e, h)

    -- the same, summed over the rows
    counted_lines : (rows : List (List ℕ))
        → sum_by (λ c. count_by (on c) rows) (codes_of q) + count_of q v b rows
        ≡ length rows + q * joint_count q rows u v a b
    counted_lines [] = omega (arith, sum_by-zero (codes_of q))
    counted_lines (x ∷ rows) =
        let here : sum_by (λ c. cond (on c x) 1 0) (codes_of q) + cond (eqb (dot q v x) b) 1 0
        ≡ 1 + q * cond (eqb (dot q u x) a && eqb (dot q v x) b) 1 0 =
        cc (
          sum_by-ext (λ c. cond (on c x) 1 0)
              (λ c. cond (test (dot q u x) (dot q v x) a b (dot_code q f u x) (dot_code q f v x) ha hb c) 1 0)
              (codes_of q)
              (λ c. ap (λ y. cond (eqb y (line c)) 1 0) (dot-minus q f u v c x)),
          lines_at (dot q u x) (dot q v x) a b (dot_code q f u x) (dot_code q f v x) ha hb,
        ) in
        let sums =
        sum_by-ext (λ c. count_by (on c) (x ∷ rows)) (λ c. cond (on c x) 1 0 + count_by (on c) rows) (codes_of q)
        (λ c. sum_by-cons (λ x. cond (on c x) 1 0) x rows)
        ∙ sum_by-plus (λ c. cond (on c x) 1 0) (λ c. count_by (on c) rows) (codes_of q) in
        ap₂ (λ m n. m + n) sums (sum_by-cons (λ x. cond (eqb (dot q v x) b) 1 0) x rows)
        ∙ step _ _ _ _ _ _ _ here (counted_lines rows)
        ∙ ap (λ n. suc (length rows) + q * n)
        (sym (sum_by-cons (λ x. cond (eqb (dot q u x) a && eqb (dot q v x) b) 1 0) x rows))

    module _ (rows : List (List ℕ)) (bu : q * count_of q u a rows ≡ length rows)
        (bv : q * count_of q v b rows ≡ length rows)
        (each : (c : ℕ) → c < q → q * count_of q (off c) (line c) rows ≡ length rows) where
      some : 0 < q
      some = omega arith

      pub crossing : length rows * joint_count q rows u v a b ≡ count_of q u a rows * count_of q v b rows
      crossing =
          let n = count_of q v b rows in
          let j = joint_count q rows u v a b in
          let left = eq_of_mul-eq-mul_left q some (count_of q u a rows) n (bu ∙ sym bv) in
          let lines =
          sum_by-same (λ c. count_by (on c) rows) (λ c. n) 0 q
          (λ c low high. eq_of_mul-eq-mul_left q some (count_by (on c) rows) n (each c (omega arith) ∙ sym bv))
          ∙ sum_const n 0 q in
          let all = counted_lines rows in
          let once : n ≡ q * j = omega arith in
          cc (mul_assoc q n j, mul_left_comm q n j)

-- a balanced vector has each value on one in q rows
pub balanced_count : (q : ℕ) → IsField q → (w : List ℕ) (rows : List (List ℕ)) → IsBalanced q w rows → (y : ℕ) → y < q
    → q * count_of q w y rows ≡ length rows
balanced_count q f w rows h y low =
    cc (
      sum_const (count_of q w y rows) 0 q,
      sum_by-same (λ z. count_by (λ x. eqb (dot q w x) z) rows) (λ z. count_of q w y rows) 0 q
          (λ z from to. h.same z y (omega arith) low),
      total (dot q w) q rows
          (All-from_get_or (λ x. dot q w x < q) rows [] (λ k there. dot_code q f w _)),
    )
