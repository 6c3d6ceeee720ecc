-- One row more than the rows of a prefix: the word with a single code, at the new row; and where the prefix is allowed,
-- no closing word is one of the rows before.
use Rattle.std.proofs.Common.{ℕ, ◌≡◌, ◌<◌, ◌≤◌, ◌+◌, ◌-◌, ◌^◌, zero, suc, true, List, [], ◌∷◌, ◌++◌, take, drop, set}
use Rattle.std.proofs.Common.{get_or, length, length-append, refl, arith, take-append-drop}
use Rattle.std.proofs.Common.{length-take}
use Rattle.std.specs.List.{AllByRecursion}
use Rattle.std.proofs.lemmas.Bool.{both_ways}
use Rattle.std.proofs.lemmas.List.{get_or_push}
use Rattle.fx_base.proofs.Lists.{each-append}
use Rattle.fx_designs.specs.Galois.{number, digits, IsField}
use Rattle.fx_designs.specs.Vectors.{IsVector, zeros, combination, vectors_of}
use Rattle.fx_designs.specs.Problems.{Dimensions, Requirement}
use Rattle.fx_designs.specs.Demands.{is_allowed}
use Rattle.fx_laws.proofs.Codes.{digits-vector, number-zeros}
use Rattle.fx_laws.proofs.Space.{AreVectors, zeros-vector}
use Rattle.fx_vectors.proofs.Steps.{are_vectors}
use Rattle.fx_demands.specs.Completions.{IsPartial, IsClosing}
use Rattle.fx_demands.proofs.Completing.{no-combination}
use Rattle.fx_demands.proofs.Choice.{not_allowed}
use Rattle.fx_demands.proofs.Closings.{length-zeros, first-begins, partial_first}
use Rattle.fx_barred.proofs.Reach.{vector-set, number-set}

-- the word with a single code, which is 1, at the new row
module _ (d : Dimensions) (f : IsField d.q) (rows : List ℕ) (below : AllByRecursion (λ x. x < d.q ^ d.m) rows)
    (part : length rows < d.s + d.t) (x : ℕ) (x-below : x < d.q ^ d.m) where
  pub length-longer : length (rows ++ x ∷ []) ≡ length rows + 1
  length-longer = length-append rows (x ∷ [])

  pub fits-longer : length (rows ++ x ∷ []) ≤ d.s + d.t
  fits-longer = omega (arith, length-longer)

  pub below-longer : AllByRecursion (λ y. y < d.q ^ d.m) (rows ++ x ∷ [])
  below-longer = each-append _ rows (x ∷ []) below (x-below, tt)

  abbrev pub single : List ℕ
  single = set (zeros (d.s + d.t)) (length rows) 1

  pub vector-single : IsVector d.q (d.s + d.t) single
  vector-single =
      vector-set d.q _ 1 (length rows) _ f.more_than_one (zeros-vector d.q (d.s + d.t) f)

  pub front-single : drop (length rows) single ≡ 1 ∷ zeros (d.s + d.t - (length rows + 1))
  front-single = first-begins d f _ below-longer fits-longer _ part

  pub number-single : number d.q single ≡ d.q ^ length rows
  number-single =
      let n = d.s + d.t in
      let there : length rows < length (zeros n) = omega (arith, length-zeros n) in
      let value = number-set d.q 1 _ (zeros n) there (zero-at (length rows) n) in
      let none = number-zeros d.q n in
      omega arith
    where
      zero-at : (j n : ℕ) → get_or (zeros n) j 0 ≡ 0
      zero-at j zero = refl
      zero-at zero (suc n) = refl
      zero-at (suc j) (suc n) = zero-at j n

  pub partial-single : IsPartial d (rows ++ x ∷ []) (length rows) single x
  partial-single =
      rw (get_or_push rows x 0 (length rows) refl) at
      (partial_first d f _ below-longer fits-longer (length rows) (omega (arith, length-longer))
      vector-single)

module _ (d : Dimensions) (f : IsField d.q) (wanted : Requirement) (rows : List ℕ)
    (below : AllByRecursion (λ x. x < d.q ^ d.m) rows) (part : length rows < d.s + d.t)
    (allowed-so-far : is_allowed d wanted rows ≡ true) (x : ℕ) (x-below : x < d.q ^ d.m) where
  abbrev q : ℕ
  q = d.q

  abbrev n : ℕ
  n = d.s + d.t

  abbrev k : ℕ
  k = length rows

  abbrev longer : List ℕ
  longer = rows ++ x ∷ []

  some : 0 < q
  some = omega arith

  -- over the rows before, with zeros after them
  sum-before : (u : List ℕ) (rs : List (List ℕ)) (v : List ℕ) (j : ℕ) → length u ≡ length rs → IsVector q d.m v
      → AreVectors q d.m rs → combination q d.m (u ++ zeros j) (rs ++ v ∷ []) ≡ combination q d.m (u ++ zeros j) rs
  sum-before [] [] v zero e hv hr = refl
  sum-before [] [] v (suc j) e hv hr = no-combination d f (suc j) (v ∷ []) (hv, tt)
  sum-before [] (s ∷ rs) v j e hv hr = absurd (omega arith)
  sum-before (a ∷ u) [] v j e hv hr = absurd (omega arith)
  sum-before (a ∷ u) (s ∷ rs) v j e hv hr =
      cc (sum-before u rs v j (omega arith) hv hr.1)

  -- the vectors of the longer rows
  pub vectors-longer : (rs : List ℕ) → vectors_of q d.m (rs ++ x ∷ []) ≡ vectors_of q d.m rs ++ digits q d.m x ∷ []
  vectors-longer [] = refl
  vectors-longer (y ∷ rs) = cc (vectors-longer rs)

  pub length-vectors : (rs : List ℕ) → length (vectors_of q d.m rs) ≡ length rs
  length-vectors [] = refl
  length-vectors (y ∷ rs) = cc (length-vectors rs)

  -- no closing word is one of the rows before
  pub not_before : (other : List ℕ) → IsClosing d wanted longer other → drop k other ≡ zeros (n - k) → ⊥
  not_before other h front =
      let l = length-take k other in
      let parts : take k other ++ zeros (n - k) ≡ other =
      cc (take-append-drop k other) in
      let same_length : length (take k other) ≡ length (vectors_of q d.m rows) =
      omega (arith, length-vectors rows) in
      let same : combination q d.m other (vectors_of q d.m longer) ≡ combination q d.m other (vectors_of q d.m rows) =
      cc (
        vectors-longer rows,
        sum-before (take k other) (vectors_of q d.m rows) _ (n - k) same_length
            (digits-vector q d.m x some) (are_vectors q d.m rows some),
      ) in
      both_ways _
      (not_allowed d f wanted rows (omega arith) other
      (record {
        vector = h.vector;
        on_rows = front;
        normal = h.normal;
        hit = record { zero_sum = cc h.hit.zero_sum; forbidden = h.hit.forbidden };
      }))
      allowed-so-far
