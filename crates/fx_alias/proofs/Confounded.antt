-- Which sums of the factor rules are those of words that are confounded with blocks.
use Rattle.std.proofs.Common.{ℕ, ◌≡◌, ◌≤◌, ◌^◌, ◌∙◌, ◌&&◌, zero, suc, Bool, cond, eqb, List, [], ◌∷◌}
use Rattle.std.proofs.Common.{length, take, refl, sym, ap, arith, inl, inr}
use Rattle.std.specs.Prelude.{nat_lt, not, count_by}
use Rattle.std.proofs.lemmas.Bool.{cases_Bool, both_ways, lt-ltb}
use Rattle.std.proofs.lemmas.List.{take-map, length-map, length-take-le}
use Rattle.std.proofs.lemmas.List.Elements.{recursion_from_All}
use Rattle.fx_designs.specs.Galois.{IsField, digits, number}
use Rattle.fx_designs.specs.Vectors.{IsVector, weight, combination, vectors_of}
use Rattle.fx_designs.specs.Runs.{points, is_constant, runs_of}
use Rattle.fx_laws.proofs.CanonicalTest.{rows-vectors}
use Rattle.fx_laws.proofs.Codes.{number-below, number-zeros}
use Rattle.fx_laws.proofs.Constant.{constant_sum}
use Rattle.fx_laws.proofs.Raises.{sum_by-each}
use Rattle.fx_laws.proofs.Ranks.{number-same}
use Rattle.fx_laws.proofs.Shift.{all-points}
use Rattle.fx_laws.proofs.Space.{combination-vector, zeros-vector}
use Rattle.fx_alias.proofs.Counted.{is_counted, words_below}

-- rules past the last code play no part
pub front : (q m n : ℕ) (u : List ℕ) (rules : List (List ℕ)) → length u ≤ n
    → combination q m u (take n rules) ≡ combination q m u rules
front q m n [] rules few = refl
front q m zero (a ∷ u) rules few = absurd (omega arith)
front q m (suc n) (a ∷ u) [] few = refl
front q m (suc n) (a ∷ u) (r ∷ rules) few =
    cc (front q m n u rules (let l : length u ≤ n = omega arith in l))

module _ (q m s : ℕ) (f : IsField q) (rows : List ℕ) where
  abbrev sum : List ℕ → List ℕ
  sum u = combination q m u (vectors_of q m rows)

  vector : (u : List ℕ) → IsVector q m (sum u)
  vector u = combination-vector q m f u _ (rows-vectors q m f rows)

  -- the factor rules give the same sum
  factors_sum : (u : List ℕ) → IsVector q s u → combination q m u (vectors_of q m (take s rows)) ≡ sum u
  factors_sum u hu =
      cc (take-map (digits q m) s rows, front q m s u (vectors_of q m rows) (omega arith))

  -- the number is above 0 where the vector is not constant over the runs
  some_number : (u : List ℕ) → nat_lt 0 (number q (sum u)) ≡ not (is_constant q u (runs_of q m (vectors_of q m rows)))
  some_number u =
      let is = is_constant q u (runs_of q m (vectors_of q m rows)) in
      let both = constant_sum q f u m rows in
      elim (cases_Bool is) [
        | inl constant ↦
            cc (both.0 constant, number-zeros q m)
        | inr moves ↦
            (let apart : number q (sum u) ≡ 0 → ⊥ =
            λ e. both_ways is moves
            (both.1
            (number-same q m f _ _ (vector u) (zeros-vector q m f) (e ∙ sym (number-zeros q m)))) in
            lt-ltb 0 (number q (sum u)) (omega arith))
            ∙ ap not (sym moves)
      ]

  module _ (test : ℕ → Bool) (blocked : List ℕ → Bool)
      (decides : (u : List ℕ) → IsVector q s u → blocked u ≡ test (number q (sum u))) where
    abbrev counted : ℕ → List ℕ → ℕ
    counted k u = cond (eqb (weight u) k
        && is_counted test (q ^ m) (number q (combination q m u (vectors_of q m (take s rows))))) 1 0

    abbrev confounded : ℕ → List ℕ → ℕ
    confounded k u = cond (eqb (weight u) k
        && (not (is_constant q u (runs_of q m (vectors_of q m rows))) && blocked u)) 1 0

    alike : (k : ℕ) (u : List ℕ) → IsVector q s u → counted k u ≡ confounded k u
    alike k u hu =
        let z = number q (sum u) in
        cc (factors_sum u hu, lt-ltb z _ (number-below q m _ (vector u)), some_number u, decides u hu)

    -- all numbers of points count the words that are confounded
    pub all_below : s ≤ length rows → (k : ℕ)
        → words_below q m (vectors_of q m (take s rows)) test k (q ^ m)
        ≡ count_by (λ u. eqb (weight u) k && (not (is_constant q u (runs_of q m (vectors_of q m rows))) && blocked u))
        (points q s)
    all_below enough k =
        cc (
          (length-map (take s rows) (digits q m) ∙ length-take-le s rows enough),
          sum_by-each (counted k)
              (confounded k) (points q s)
              (recursion_from_All _ _
              (all-points q s (omega arith) (λ u. counted k u ≡ confounded k u) (alike k))),
        )
