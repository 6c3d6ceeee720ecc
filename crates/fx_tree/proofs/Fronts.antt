-- The first rows of lists, and where the lists stand.
use Rattle.std.proofs.Common.{◌≡◌, ℕ, zero, suc, ◌≤◌, Bool, true, false, not, ◌&&◌, ◌||◌, eqb, ltb, List, [], ◌∷◌}
use Rattle.std.proofs.Common.{length, take, refl, inl, inr, arith}
use Rattle.std.specs.List.{list_all}
use Rattle.std.proofs.lemmas.Bool.{cases_Bool, and_parts, and_right, eqb-true, ltb-true, le-ltb}
use Rattle.fx_designs.specs.Vectors.{same}
use Rattle.fx_designs.specs.Answers.{before}
use Rattle.fx_tree.specs.Ranked.{extends}
use Rattle.fx_tree.proofs.Lots.{Ranged}

-- to have the first k rows of a list of k rows is to begin with it
pub front-extends : (k : ℕ) (rows j : List ℕ) → length j ≡ k → same (take k rows) j ≡ extends rows j
front-extends zero rows [] e = refl
front-extends zero rows (b ∷ j) e = absurd (omega arith)
front-extends (suc k) rows [] e = absurd (omega arith)
front-extends (suc k) [] (b ∷ j) e = refl
front-extends (suc k) (a ∷ rows) (b ∷ j) e = cc (front-extends k rows j (omega arith))

-- a list precedes another by their first k rows, or has the same ones
pub front-before : (k : ℕ) (d q : List ℕ) → k ≤ length d → k ≤ length q
    → (before d q && not (same (take k d) (take k q))) ≡ before (take k d) (take k q)
front-before zero d q h g = and_right _ _ refl
front-before (suc k) [] q h g = absurd (omega arith)
front-before (suc k) (a ∷ d) [] h g = absurd (omega arith)
front-before (suc k) (a ∷ d) (b ∷ q) h g =
    elim (cases_Bool (eqb a b)) [
      | inl e ↦
          let is = eqb-true a b e in
          let low : ltb b a ≡ false = le-ltb b a (omega arith) in
          rw (low, e) (front-before k d q (omega arith) (omega arith))
      | inr e ↦ rw e (plain (ltb b a))
    ]
  where
    plain : (x : Bool) → ((x || false) && true) ≡ (x || false)
    plain true = refl
    plain false = refl

-- before a short list, the first rows decide
pub before-front : (k : ℕ) (d q : List ℕ) → length q ≤ k → k ≤ length d → before (take k d) q ≡ before d q
before-front k d [] h g = refl
before-front zero d (b ∷ q) h g = absurd (omega arith)
before-front (suc k) [] (b ∷ q) h g = absurd (omega arith)
before-front (suc k) (a ∷ d) (b ∷ q) h g =
    cc (before-front k d q (omega arith) (omega arith))

pub ranged-all : (b : ℕ) (rows : List ℕ) → list_all (λ r. ltb r b) rows ≡ true → Ranged b rows
ranged-all b [] h = tt
ranged-all b (r ∷ rows) h = let parts = and_parts (ltb r b) (list_all (λ r. ltb r b) rows) h in
    (ltb-true r b parts.0, ranged-all b rows parts.1)
