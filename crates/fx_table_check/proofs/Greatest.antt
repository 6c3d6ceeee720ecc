-- The greatest row that may follow.
use Rattle.std.proofs.Common.{ℕ, ◌≡◌, ◌<◌, ◌≤◌, ◌+◌, ◌-◌, ◌^◌, zero, suc, Bool, true, false, eqb, ◌&&◌, List, []}
use Rattle.std.proofs.Common.{◌∷◌}
use Rattle.std.proofs.Common.{length, refl, ◌∙◌, ap, arith, inl, inr}
use Rattle.std.specs.Prelude.{min, nat_lt}
use Rattle.std.specs.List.{filter}
use Rattle.std.proofs.lemmas.Bool.{cases_lt, cases_eq, cond-true, cond-false, lt-ltb, ltb-true}
use Rattle.std.proofs.lemmas.Bool.{false_from_ne_true}
use Rattle.fx_designs.specs.Answers.{falling}
use Rattle.fx_strata.specs.Designs.{Strata}
use Rattle.fx_strata.specs.Canonical.{is_later, dimensions_of}
use Rattle.fx_strata.specs.Stages.{stage_after, has_units, bound, may_follow}

-- rows that pass no test from a bound on
pub cut : (p : ℕ → Bool) (b : ℕ) → ((r : ℕ) → b ≤ r → p r ≡ false) → (n : ℕ)
    → filter p (falling n) ≡ filter p (falling (min n b))
cut p b none zero = ap (λ k. filter p (falling k)) (let e : 0 ≡ min 0 b = omega arith in e)
cut p b none (suc n) = elim (cases_lt n b) [
  | inl l ↦ ap (λ k. filter p (falling k)) (let e : suc n ≡ min (suc n) b = omega arith in e)
  | inr g ↦
      cond-false _ (n ∷ filter p (falling n)) (filter p (falling n)) (none n (omega arith))
      ∙ cut p b none n
      ∙ ap (λ k. filter p (falling k)) (let e : min n b ≡ min (suc n) b = omega arith in e)
]

-- the one row that passes a test
pub alone : (p : ℕ → Bool) (u : ℕ) → p u ≡ true → ((r : ℕ) → (r ≡ u → ⊥) → p r ≡ false) → (n : ℕ) → u < n
    → filter p (falling n) ≡ u ∷ []
alone p u here other zero low = absurd (omega arith)
alone p u here other (suc n) low = elim (cases_eq n u) [
  | inl e ↦
      cc (cond-true _ (n ∷ filter p (falling n)) (filter p (falling n)) (ap p e ∙ here), none-below n (omega arith))
  | inr ne ↦
      cond-false _ (n ∷ filter p (falling n)) (filter p (falling n)) (other n ne)
      ∙ alone p u here other n (omega arith)
]
  where
    none-below : (k : ℕ) → k ≤ u → filter p (falling k) ≡ []
    none-below zero low = refl
    none-below (suc k) low =
        cond-false _ (k ∷ filter p (falling k)) (filter p (falling k)) (other k (λ e. omega arith))
        ∙ none-below k (omega arith)

pub none-before : (p : ℕ → Bool) (u : ℕ) → ((r : ℕ) → (r ≡ u → ⊥) → p r ≡ false) → (n : ℕ) → n ≤ u
    → filter p (falling n) ≡ []
none-before p u other zero low = refl
none-before p u other (suc n) low =
    cond-false _ (n ∷ filter p (falling n)) (filter p (falling n)) (other n (λ e. omega arith))
    ∙ none-before p u other n (omega arith)

module _ (x : Strata) (rows : List ℕ) where
  abbrev later : ℕ → Bool
  later r = is_later (dimensions_of x) (stage_after x rows).first_unit r

  abbrev unit : ℕ
  unit = x.q ^ ((stage_after x rows).first_unit + (length rows - (stage_after x rows).begin))

  module _ (units : has_units x rows ≡ true) where
    with-units : (r : ℕ) → may_follow x rows r ≡ (later r && nat_lt r (bound x rows))
    with-units r = cond-true _ _ _ units

    pub below-bound : (r : ℕ) → r < bound x rows → may_follow x rows r ≡ later r
    below-bound r low = cc (with-units r, lt-ltb r _ low, and-true (later r))
      where
        and-true : (b : Bool) → (b && true) ≡ b
        and-true true = refl
        and-true false = refl

    pub none-above : (r : ℕ) → bound x rows ≤ r → may_follow x rows r ≡ false
    none-above r high =
        cc (
          with-units r,
          false_from_ne_true (nat_lt r (bound x rows))
              (λ t. omega (arith, ltb-true r _ t)),
          and-false (later r),
        )
      where
        and-false : (b : Bool) → (b && false) ≡ false
        and-false true = refl
        and-false false = refl

  module _ (missing : has_units x rows ≡ false) where
    pub without-units : (r : ℕ) → may_follow x rows r ≡ eqb r unit
    without-units r = cond-false _ _ _ missing
