-- Levels that are exchanged, one after another.
use Rattle.std.proofs.Common.{ℕ, ◌≡◌, ◌<◌, ◌+◌, ◌-◌, zero, suc, cond, eqb, List, [], ◌∷◌, ◌++◌, length, take, get_or}
use Rattle.std.proofs.Common.{refl, arith, inl, inr}
use Rattle.std.specs.List.{AllByRecursion}
use Rattle.std.proofs.lemmas.Bool.{cases_Bool, cond-true, cond-false}
use Rattle.std.proofs.lemmas.List.{take_more}
use Rattle.fx_designs.specs.Vectors.{IsVector}
use Rattle.fx_foldover.specs.Foldovers.{exchanged_run}

pub length-exchanged_run : (fold x : List ℕ) → length fold ≡ length x → length (exchanged_run fold x) ≡ length x
length-exchanged_run [] x e = refl
length-exchanged_run (f ∷ fold) [] e = refl
length-exchanged_run (f ∷ fold) (a ∷ x) e = cc (length-exchanged_run fold x (omega arith))

level-at : (fold x : List ℕ) (i : ℕ) → length fold ≡ length x → i < length x
    → get_or (exchanged_run fold x) i 0 ≡ cond (eqb (get_or fold i 0) 0) (get_or x i 0) (1 - get_or x i 0)
level-at [] x i e low = absurd (omega arith)
level-at (f ∷ fold) [] i e low = absurd (omega arith)
level-at (f ∷ fold) (a ∷ x) zero e low = refl
level-at (f ∷ fold) (a ∷ x) (suc i) e low = level-at fold x i (omega arith) (omega arith)

-- one level more
pub levels-more : (fold x : List ℕ) (i : ℕ) → length fold ≡ length x → i < length x
    → take (i + 1) (exchanged_run fold x)
    ≡ take i (exchanged_run fold x)
    ++ cond (eqb (get_or fold i 0) 0) (get_or x i 0) (1 - get_or x i 0) ∷ []
levels-more fold x i e low =
    cc (take_more (exchanged_run fold x) i 0 (omega (arith, length-exchanged_run fold x e)), level-at fold x i e low)

-- levels stay levels
pub exchanged_run-vector : (q n : ℕ) (fold x : List ℕ) → q ≡ 2 → length fold ≡ length x → IsVector q n x
    → IsVector q n (exchanged_run fold x)
exchanged_run-vector q n fold x two e h =
    record { len = cc (length-exchanged_run fold x e); codes = each fold x h.codes }
  where
    each : (fold x : List ℕ) → AllByRecursion (λ c. c < q) x → AllByRecursion (λ c. c < q) (exchanged_run fold x)
    each [] x h = h
    each (f ∷ fold) [] h = tt
    each (f ∷ fold) (a ∷ x) h = (
      (elim (cases_Bool (eqb f 0)) [
        | inl kept ↦ rw (cond-true _ a (1 - a) kept) h.0
        | inr folded ↦ rw (cond-false _ a (1 - a) folded) (omega arith)
      ]),
      each fold x h.1,
    )
