-- What is aliased over runs is aliased over rows that have each run equally often, and the other way round.
use Rattle.std.proofs.Common.{ℕ, ◌≡◌, ◌<◌, ◌*◌, Bool, true, false, not, cond, eqb, List, [], ◌∷◌, refl}
use Rattle.std.proofs.Common.{◌∙◌, ap, arith, inl, inr, mul-pos}
use Rattle.std.specs.Prelude.{count_by}
use Rattle.std.specs.List.{list_all, list_any}
use Rattle.std.proofs.lemmas.Bool.{cases_eq, eq-eqb, ne_eqb}
use Rattle.std.proofs.lemmas.List.Folds.{sum_by-zero}
use Rattle.fx_designs.specs.Vectors.{dot, minus, scale}
use Rattle.fx_designs.specs.Runs.{is_constant}
use Rattle.fx_designs.specs.Aliases.{is_aliased}

any_same : {X : Type 0} (p r : X → Bool) (xs : List X) → ((x : X) → p x ≡ r x) → list_any p xs ≡ list_any r xs
any_same p r [] same = refl
any_same p r (x ∷ xs) same = cc (same x, any_same p r xs same)

all_same : {X : Type 0} (p r : X → Bool) (xs : List X) → ((x : X) → p x ≡ r x) → list_all p xs ≡ list_all r xs
all_same p r [] same = refl
all_same {X} p r (x ∷ xs) same = cc (same x, all_same p r xs same)

fails : (b : Bool) → eqb (cond (not b) 1 0) 0 ≡ b
fails true = refl
fails false = refl

-- all pass where none fails
all_counted : {X : Type 0} (p : X → Bool) (xs : List X) → list_all p xs ≡ eqb (count_by (λ x. not (p x)) xs) 0
all_counted p xs =
    cc (
      all_same (λ x. eqb (cond (not (p x)) 1 0) 0) p xs (λ x. fails (p x)),
      sum_by-zero (λ x. cond (not (p x)) 1 0)
          xs,
    )

times : (k n : ℕ) → 0 < k → eqb (k * n) 0 ≡ eqb n 0
times k n h = elim (cases_eq n 0) [
  | inl z ↦ cc (eq-eqb (k * n) 0 (ap (λ n. k * n) z ∙ omega arith), eq-eqb n 0 z)
  | inr ne ↦
      cc (
        ne_eqb (k * n) 0 (λ e. let some : 0 < n = omega arith in absurd (omega (arith, mul-pos h some))),
        ne_eqb n 0
            ne,
      )
]

module _ (q k : ℕ) (runs rows : List (List ℕ)) (some : 0 < k)
    (often : (test : List ℕ → Bool) → count_by test rows ≡ k * count_by test runs) where
  all_told : (p : List ℕ → Bool) → list_all p rows ≡ list_all p runs
  all_told p =
      cc (all_counted p rows, often (λ x. not (p x)), times k (count_by (λ x. not (p x)) runs) some, all_counted p runs)

  pub constant_told : (u : List ℕ) → is_constant q u rows ≡ is_constant q u runs
  unfolding is_constant
  constant_told u =
      any_same (λ c. list_all (λ x. eqb (dot q u x) c) rows) (λ c. list_all (λ x. eqb (dot q u x) c) runs) _
      (λ c. all_told (λ x. eqb (dot q u x) c))

  pub aliased_told : (u v : List ℕ) → is_aliased q rows u v ≡ is_aliased q runs u v
  unfolding is_aliased
  aliased_told u v =
      any_same (λ c. is_constant q (minus q u (scale q c v)) rows) (λ c. is_constant q (minus q u (scale q c v)) runs)
      _ (λ c. constant_told (minus q u (scale q c v)))
