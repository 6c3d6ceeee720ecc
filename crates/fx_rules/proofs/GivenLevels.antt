-- The rows that introduce run indexes have the run indexes as their levels, so each of the others has the levels of a
-- combination of them, and their own levels are those of a full factorial.
use Rattle.std.proofs.Common.{ℕ, ◌≡◌, ◌<◌, ◌≤◌, ◌+◌, ◌-◌, ◌^◌, zero, suc, false, List, [], ◌∷◌}
use Rattle.std.proofs.Common.{length, get_or, take, sym, subst, inl, inr, arith, eqb-true}
use Rattle.std.specs.Prelude.{◌==◌, if◌then◌else◌, count_by}
use Rattle.std.specs.List.{AllByRecursion}
use Rattle.std.proofs.lemmas.Bool.{cases_Bool, cases_lt, eqb-false}
use Rattle.std.proofs.lemmas.List.{take_all}
use Rattle.std.proofs.Math.Nat.{pow-le-pow_right}
use Rattle.fx_designs.specs.Galois.{IsField, digits}
use Rattle.fx_designs.specs.Vectors.{IsVector, dot, same, vectors_of}
use Rattle.fx_designs.specs.Runs.{levels_at, runs_of}
use Rattle.fx_tree.specs.Introduced.{introduced, introducing}
use Rattle.fx_tree.proofs.RuleLevels.{ruled, factorial}
use Rattle.fx_rules.specs.Stepped.{IsStepped}

-- row k is the next unit vector or below it
stepped_at : (q j : ℕ) (rows : List ℕ) (k : ℕ) → IsStepped q j rows → k < length rows
    → get_or rows k 0 ≤ q ^ introduced q j (take k rows)
stepped_at q j [] k h low = absurd (omega arith)
stepped_at q j (row ∷ rows) zero h low = h.0
stepped_at q j (row ∷ rows) (suc k) h low =
    stepped_at q (if row == q ^ j then j + 1 else j) rows k h.1 (omega arith)

-- no more than there are
within_stepped : (q m j : ℕ) (rows : List ℕ) (k : ℕ) → 0 < q → AllByRecursion (λ r. r < q ^ m) rows → j ≤ m
    → introduced q j (take k rows) ≤ m
within_stepped q m j rows zero positive below fits = fits
within_stepped q m j [] (suc k) positive below fits = fits
within_stepped q m j (row ∷ rows) (suc k) positive below fits = elim (cases_Bool (row == q ^ j)) [
  | inl is ↦
      let e = eqb-true row _ is in
      let less : j < m = elim (cases_lt j m) [
        | inl a ↦ a
        | inr high ↦
            let more : q ^ m ≤ q ^ j = pow-le-pow_right (omega (arith, positive)) high in
            absurd (omega (arith, more, e, below.0))
      ] in
      subst (λ b. introduced q (if b then j + 1 else j) (take k rows) ≤ m) (sym is)
      (within_stepped q m (j + 1) rows k positive below.1 (omega arith))
  | inr other ↦
      subst (λ b. introduced q (if b then j + 1 else j) (take k rows) ≤ m) (sym other)
      (within_stepped q m j rows k positive below.1 fits)
]

pub given_levels : (q m : ℕ) (rows : List ℕ) (k : ℕ) (p : List ℕ) → IsField q → IsStepped q 0 rows
    → AllByRecursion (λ r. r < q ^ m) rows → k < length rows
    → (get_or rows k 0 == q ^ introduced q 0 (take k rows)) ≡ false → IsVector q m p
    → dot q (digits q m (get_or rows k 0))
    (introducing q 0 (take k rows) (levels_at q (vectors_of q m (take k rows)) p))
    ≡ dot q (digits q m (get_or rows k 0)) p
given_levels q m rows k p f stepped below low other h =
    let row = get_or rows k 0 in
    let n = introduced q 0 (take k rows) in
    let at = stepped_at q 0 rows k stepped low in
    let apart = eqb-false row _ other in
    let less : row < q ^ n = elim (cases_lt row (q ^ n)) [
      | inl a ↦ a
      | inr high ↦ absurd (apart (omega arith))
    ] in
    ruled q f m _ row p h
    (within_stepped q m 0 rows k (omega arith) below (omega arith)) less

-- the rows that introduce run indexes have each combination of levels in equally many runs
pub given_combinations : (q m : ℕ) (rows c : List ℕ) → IsField q → AllByRecursion (λ r. r < q ^ m) rows
    → IsVector q (introduced q 0 rows) c
    → count_by (λ run. same (introducing q 0 rows run) c) (runs_of q m (vectors_of q m rows))
    ≡ q ^ (m - introduced q 0 rows)
given_combinations q m rows c f below h =
    factorial q f m rows c
    (rw (take_all (length rows) rows (omega arith)) at
    (within_stepped q m 0 rows (length rows) (omega arith) below (omega arith))) h
