-- Rows without words of one or two, as a sum that is 0.
use Rattle.std.proofs.Common.{ℕ, ◌≡◌, ◌≤◌, Bool, true, false, cond, List, [], ◌∷◌, ◌++◌, length, ◌∙◌}
use Rattle.std.proofs.Common.{ap, arith, eq-eqb, inl, inr}
use Rattle.std.specs.List.{AllByRecursion, sum_by}
use Rattle.std.proofs.lemmas.List.Sums.{sum_by-cons}
use Rattle.std.proofs.lemmas.List.Elements.{All-from_recursion}
use Rattle.std.proofs.lemmas.Bool.{cases_eq, and_from}
use Rattle.fx_designs.specs.Galois.{IsField}
use Rattle.fx_designs.specs.Vectors.{zeros, weight, is_zero, combination, IsVector}
use Rattle.fx_laws.proofs.Space.{AreVectors}
use Rattle.fx_laws.proofs.Shift.{points-each}
use Rattle.fx_laws.proofs.Falling.{IsWordFree}
use Rattle.fx_laws.proofs.Weights.{weight-zeros}
use Rattle.fx_strata.proofs.Totals.{total, total-grows, total-turned, counted}

pub each-none : {X : Type 0} (g : X → ℕ) (xs : List X) → sum_by g xs ≡ 0 → AllByRecursion (λ x. g x ≡ 0) xs
each-none g [] h = tt
each-none g (x ∷ xs) h = (let e = sum_by-cons g x xs in (omega arith, each-none g xs (omega arith)))

module _ (q m : ℕ) (f : IsField q) where
  -- no words of weight one and two
  pub record IsFree (rows : List (List ℕ)) : Type 0 where
    pub one : total q m f (counted q m f is_zero 1) rows ≡ 0
    pub two : total q m f (counted q m f is_zero 2) rows ≡ 0

  not-both : (b : Bool) → cond {A = ℕ} b 1 0 ≡ 0 → b ≡ true → ⊥
  not-both true h e = omega arith
  not-both false h e = cc e

  none_of : (k : ℕ) (rows : List (List ℕ)) → total q m f (counted q m f is_zero k) rows ≡ 0 → (u : List ℕ)
      → IsVector q (length rows) u → weight u ≡ k → combination q m u rows ≡ zeros m → ⊥
  none_of k rows h u hu e z =
      let at : List ℕ → ℕ = λ u. counted q m f is_zero k (weight u) (combination q m u rows) in
      let none =
      points-each q _ (omega arith) (λ u. at u ≡ 0)
      (All-from_recursion _ _ (each-none at _ h)) u hu in
      not-both _ none
      (and_from _ _ (ap is_zero z ∙ eq-eqb _ 0 (weight-zeros m)) (eq-eqb _ k e))

  pub word-free : (rows : List (List ℕ)) → IsFree rows → IsWordFree q m f rows
  word-free rows h u hu some few z = elim (cases_eq (weight u) 1) [
    | inl e ↦ none_of 1 rows h.one u hu e z
    | inr ne ↦ none_of 2 rows h.two u hu (omega arith) z
  ]

  more : (g : ℕ → List ℕ → ℕ) (xs ys : List (List ℕ)) → AreVectors q m xs → AreVectors q m ys
      → total q m f g ys ≤ total q m f g (xs ++ ys)
  more g [] ys hx hy = omega arith
  more g (x ∷ xs) ys hx hy =
      omega (arith, more g xs ys hx.1 hy, total-grows q m f g x _ hx.0 (both xs ys hx.1 hy))
    where
      both : (xs ys : List (List ℕ)) → AreVectors q m xs → AreVectors q m ys → AreVectors q m (xs ++ ys)
      both [] ys hx hy = hy
      both (x ∷ xs) ys hx hy = (hx.0, both xs ys hx.1 hy)

  pub free-back : (xs ys : List (List ℕ)) → AreVectors q m xs → AreVectors q m ys → IsFree (xs ++ ys) → IsFree ys
  free-back xs ys hx hy h = record {
    one = (let e = h.one in omega (arith, more (counted q m f is_zero 1) xs ys hx hy));
    two = (let e = h.two in omega (arith, more (counted q m f is_zero 2) xs ys hx hy));
  }

  pub free-front : (xs ys : List (List ℕ)) → AreVectors q m xs → AreVectors q m ys → IsFree (xs ++ ys) → IsFree xs
  free-front xs ys hx hy h = free-back ys xs hy hx (record {
    one = cc (total-turned q m f (counted q m f is_zero 1) ys xs);
    two = cc (total-turned q m f (counted q m f is_zero 2) ys xs);
  })
