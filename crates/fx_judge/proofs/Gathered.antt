-- A sum over items, each of which has a vector as its key, is one over all vectors.
use Rattle.std.proofs.Common.{ℕ, zero, suc, ◌≡◌, ◌+◌, ◌*◌, Bool, true, false, cond, ◌&&◌, eqb, List, [], ◌∷◌}
use Rattle.std.proofs.Common.{sym, ◌∙◌, ap, arith, inl, inr, mul-add, mul-zero}
use Rattle.std.specs.Prelude.{count_by}
use Rattle.std.specs.List.{All, sum_by}
use Rattle.std.proofs.lemmas.Bool.{cases_eq, eq-eqb, ne_eqb}
use Rattle.std.proofs.lemmas.List.Sums.{sum_by-cons}
use Rattle.std.proofs.lemmas.List.Elements.{All-head, All-tail, recursion_from_All}
use Rattle.fx_designs.specs.Vectors.{IsVector, same}
use Rattle.fx_designs.specs.Runs.{points}
use Rattle.fx_laws.proofs.Raises.{sum_by-each}
use Rattle.fx_laws.proofs.Shift.{points-sum}
use Rattle.fx_laws.proofs.Sums.{sum_by-ext, sum_by-pick, sum_by-plus, sum_by-same, sum_by-zero}

pub sum_agree : {X : Type 0} (f g : X → ℕ) (xs : List X) → All (λ x. f x ≡ g x) xs → sum_by f xs ≡ sum_by g xs
sum_agree f g xs h = sum_by-each f g xs (recursion_from_All _ xs h)

pub sum_times : {X : Type 0} (k : ℕ) (f : X → ℕ) (xs : List X) → sum_by (λ x. k * f x) xs ≡ k * sum_by f xs
sum_times k f [] = omega arith
sum_times k f (x ∷ xs) =
    cc (sum_by-cons (λ x. k * f x) x xs, sum_times k f xs, mul-add k (f x) (sum_by f xs), sum_by-cons f x xs)

-- of the points with this first code
pick_at : (q n c a : ℕ) (v : List ℕ) (g : List ℕ → ℕ)
    → sum_by (λ p. cond (same v p) (g (c ∷ p)) 0) (points q n) ≡ g (c ∷ v)
    → sum_by (λ p. cond (eqb a c && same v p) (g (c ∷ p)) 0) (points q n) ≡ cond (eqb c a) (g (a ∷ v)) 0
pick_at q n c a v g rest = elim (cases_eq c a) [
  | inl e ↦
      cc (
        sum_by-ext (λ p. cond (eqb a c && same v p) (g (c ∷ p)) 0) (λ p. cond (same v p) (g (c ∷ p)) 0) (points q n)
            (λ p. ap (λ b. cond (b && same v p) (g (c ∷ p)) 0) (eq-eqb a c (cc))),
        eq-eqb c a e,
      )
  | inr ne ↦
      cc (
        sum_by-ext (λ p. cond (eqb a c && same v p) (g (c ∷ p)) 0) (λ p. 0) (points q n)
            (λ p. ap (λ b. cond (b && same v p) (g (c ∷ p)) 0) (ne_eqb a c (λ e. ne (sym e)))),
        sum_by-zero (points q n),
        ne_eqb c a ne,
      )
]

-- of all points
points_pick : (q n : ℕ) (v : List ℕ) (g : List ℕ → ℕ) → IsVector q n v
    → sum_by (λ p. cond (same v p) (g p) 0) (points q n) ≡ g v
points_pick q zero [] g h = sum_by-cons (λ p. cond (same [] p) (g p) 0) [] [] ∙ omega arith
points_pick q zero (a ∷ v) g h = absurd (let e = h.len in omega arith)
points_pick q (suc n) [] g h = absurd (let e = h.len in omega arith)
points_pick q (suc n) (a ∷ v) g h =
    let rest : IsVector q n v = record { len = (let e = h.len in omega arith); codes = h.codes.1 } in
    cc (
      points-sum q n (λ p. cond (same (a ∷ v) p) (g p) 0),
      sum_by-same
          (λ c. sum_by (λ p. cond (eqb a c && same v p) (g (c ∷ p)) 0) (points q n))
          (λ c. cond (eqb c a) (g (a ∷ v)) 0) 0 q
          (λ c low high. pick_at q n c a v g (points_pick q n v (λ p. g (c ∷ p)) rest)),
      sum_by-pick (λ c. g (a ∷ v)) a 0 q
          (omega arith) (let e = h.codes.0 in omega arith),
    )

one_more : (a : ℕ) (b : Bool) (n : ℕ) → cond b a 0 + a * n ≡ a * (cond b 1 0 + n)
one_more a true n = grind arith
one_more a false n = grind arith

-- each point counts as often as it is a key
pub gathered : {X : Type 0} (q n : ℕ) (key : X → List ℕ) (g : List ℕ → ℕ) (xs : List X)
    → All (λ x. IsVector q n (key x)) xs
    → sum_by (λ x. g (key x)) xs ≡ sum_by (λ p. g p * count_by (λ x. same (key x) p) xs) (points q n)
gathered q n key g [] h =
    cc (sum_by-ext (λ p. g p * 0) (λ p. 0) (points q n) (λ p. mul-zero (g p)), sum_by-zero (points q n))
gathered q n key g (x ∷ xs) h =
    cc (
      sum_by-cons (λ x. g (key x)) x xs,
      points_pick q n (key x) g (All-head (λ x. IsVector q n (key x)) x xs h),
      gathered q n key g xs (All-tail (λ x. IsVector q n (key x)) x xs h),
      sum_by-plus (λ p. cond (same (key x) p) (g p) 0) (λ p. g p * count_by (λ x. same (key x) p) xs) (points q n),
      sum_by-ext (λ p. cond (same (key x) p) (g p) 0 + g p * count_by (λ x. same (key x) p) xs)
          (λ p. g p * count_by (λ x. same (key x) p) (x ∷ xs)) (points q n)
          (λ p. one_more (g p) (same (key x) p) (count_by (λ x. same (key x) p) xs)
          ∙ ap (λ k. g p * k) (sym (sum_by-cons (λ x. cond (same (key x) p) 1 0) x xs))),
    )
