-- Words counted by the numbers of their sums, one number more at a time.
use Rattle.std.proofs.Common.{ℕ, ◌≡◌, ◌<◌, ◌+◌, ◌^◌, ◌∙◌, ◌&&◌, Bool, true, false, cond, eqb, List, length, refl}
use Rattle.std.proofs.Common.{sym, ap, arith, inl, inr}
use Rattle.std.specs.Prelude.{nat_lt, count_by}
use Rattle.std.specs.List.{sum_by}
use Rattle.std.proofs.lemmas.Bool.{cases_eq, cases_lt, eq-eqb, ne_eqb, lt-ltb, le-ltb}
use Rattle.std.proofs.lemmas.List.Sums.{count_by-le-length}
use Rattle.fx_designs.specs.Galois.{number}
use Rattle.fx_designs.specs.Vectors.{weight, combination}
use Rattle.fx_designs.specs.Runs.{points}
use Rattle.fx_laws.proofs.Codes.{length-points}
use Rattle.fx_laws.proofs.Sums.{sum_by-ext, sum_by-plus, sum_by-zero}
use Rattle.fx_words.specs.Spreads.{spread}

-- a number from 1 on, below n, that passes the test
abbrev pub is_counted : (ℕ → Bool) → ℕ → ℕ → Bool
is_counted test n z = nat_lt 0 z && (nat_lt z n && test z)

-- how many vectors of weight k over the rows have such a number as that of their sum
abbrev pub words_below : ℕ → ℕ → List (List ℕ) → (ℕ → Bool) → ℕ → ℕ → ℕ
words_below q m rows test k n =
    count_by (λ u. eqb (weight u) k && is_counted test n (number q (combination q m u rows))) (points q (length rows))

no_more : (w t : Bool) (z x : ℕ) → z ≡ x → 0 < x
    → cond (w && is_counted (λ y. t) (x + 1) z) 1 0
    ≡ cond (w && is_counted (λ y. t) x z) 1 0 + cond t (cond (eqb z x && w) 1 0) 0
no_more w t z x same some =
    rw (lt-ltb 0 z (omega arith), lt-ltb z (x + 1) (omega arith), le-ltb z x (omega arith), eq-eqb z x same)
    (bits w t)
  where
    bits : (w t : Bool) → cond (w && (true && (true && t))) 1 0
        ≡ cond (w && (true && (false && t))) 1 0 + cond t (cond (true && w) 1 0) 0
    bits true true = refl
    bits true false = refl
    bits false true = refl
    bits false false = refl

none_at : (b w : Bool) → ◌≡◌ {A = ℕ} (cond b (cond (false && w) 1 0) 0) 0
none_at true w = refl
none_at false w = refl

module _ (test : ℕ → Bool) where
  -- a vector with the sum x is counted from x + 1 on, where x passes
  here : (w : Bool) (z x : ℕ) → z ≡ x → 0 < x
      → cond (w && is_counted test (x + 1) z) 1 0
      ≡ cond (w && is_counted test x z) 1 0 + cond (test x) (cond (eqb z x && w) 1 0) 0
  here w z x same some =
      rw (← (ap test (sym same))) (no_more w (test x) z x same some)

  -- another is counted as before
  elsewhere : (w : Bool) (z x : ℕ) → (z ≡ x → ⊥)
      → cond (w && is_counted test (x + 1) z) 1 0
      ≡ cond (w && is_counted test x z) 1 0 + cond (test x) (cond (eqb z x && w) 1 0) 0
  elsewhere w z x apart =
      let before : nat_lt z (x + 1) ≡ nat_lt z x = elim (cases_lt z x) [
        | inl low ↦ cc (lt-ltb z (x + 1) (omega arith), lt-ltb z x low)
        | inr high ↦ cc (le-ltb z (x + 1) (omega arith), le-ltb z x high)
      ] in
      let none : ◌≡◌ {A = ℕ} (cond (test x) (cond (eqb z x && w) 1 0) 0) 0 =
      rw (ne_eqb z x apart) (none_at (test x) w) in
      let same : ◌≡◌ {A = ℕ} (cond (w && is_counted test (x + 1) z) 1 0) (cond (w && is_counted test x z) 1 0) =
      cc in
      omega arith

module _ (q m : ℕ) (rows : List (List ℕ)) (test : ℕ → Bool) (k : ℕ) where
  abbrev sum : List ℕ → ℕ
  sum u = number q (combination q m u rows)

  -- the vectors with the sum x, where x passes
  at : (b : Bool) (x : ℕ)
      → sum_by (λ u. cond b (cond (eqb (sum u) x && eqb (weight u) k) 1 0) 0) (points q (length rows))
      ≡ cond b (spread q m rows k x) 0
  unfolding spread
  at true x = refl
  at false x = sum_by-zero (points q (length rows))

  pub next_below : (x : ℕ) → 0 < x
      → words_below q m rows test k (x + 1) ≡ words_below q m rows test k x + cond (test x) (spread q m rows k x) 0
  next_below x some =
      let new : List ℕ → ℕ = λ u. cond (eqb (weight u) k && is_counted test (x + 1) (sum u)) 1 0 in
      let old : List ℕ → ℕ = λ u. cond (eqb (weight u) k && is_counted test x (sum u)) 1 0 in
      let more : List ℕ → ℕ = λ u. cond (test x) (cond (eqb (sum u) x && eqb (weight u) k) 1 0) 0 in
      cc (
        sum_by-ext new (λ u. old u + more u) (points q (length rows))
            (λ u. elim (cases_eq (sum u) x) [
              | inl same ↦ here test _ _ x same some
              | inr apart ↦ elsewhere test _ _ x apart
            ]),
        sum_by-plus old more (points q (length rows)),
        at (test x) x,
      )

  pub none_below : ◌≡◌ {A = ℕ} (words_below q m rows test k 1) 0
  none_below =
      sum_by-ext (λ u. cond (eqb (weight u) k && is_counted test 1 (sum u)) 1 0) (λ u. 0) (points q (length rows))
      (λ u. none (eqb (weight u) k) (sum u)) ∙ sum_by-zero (points q (length rows))
    where
      beyond : (w b t : Bool) → ◌≡◌ {A = ℕ} (cond (w && (b && (false && t))) 1 0) 0
      beyond true true t = refl
      beyond true false t = refl
      beyond false b t = refl

      first : (w b : Bool) → ◌≡◌ {A = ℕ} (cond (w && (false && b)) 1 0) 0
      first true b = refl
      first false b = refl

      none : (w : Bool) (z : ℕ) → ◌≡◌ {A = ℕ} (cond (w && is_counted test 1 z) 1 0) 0
      none w z = elim (cases_lt 0 z) [
        | inl some ↦
            cc (
              le-ltb z 1 (omega arith),
              beyond w (nat_lt 0 z)
                  (test z),
            )
        | inr zero ↦ cc (
          le-ltb 0 z (omega arith),
          first w
              (nat_lt z 1 && test z),
        )
      ]

  pub below_fits : (n : ℕ) → q ^ length rows < 2 ^ 127 → words_below q m rows test k n < 2 ^ 127
  below_fits n few =
      let most =
      count_by-le-length (λ u. eqb (weight u) k && is_counted test n (sum u)) (points q (length rows)) in
      omega (arith, length-points q (length rows))
