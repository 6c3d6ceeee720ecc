-- Rows of a stage put in order: its unit vectors, and the others, which fall.
use Rattle.std.proofs.Common.{ℕ, ◌≡◌, ◌<◌, ◌≤◌, ◌+◌, ◌^◌, Bool, false, not, List, [], ◌∷◌, ◌++◌, map}
use Rattle.std.proofs.Common.{refl, sym, subst, ap, arith, inl, inr, ◌⊎◌, eqb-true, eq-eqb}
use Rattle.std.specs.List.{AllByRecursion, filter}
use Rattle.std.proofs.Math.Nat.{pow-le-pow_right, pow-suc, one-le-pow, mul-le-mul_left}
use Rattle.std.proofs.lemmas.Bool.{cases_Bool, cases_lt, cond-true, and_from}
use Rattle.std.proofs.lemmas.Bool.Decides.{nat_tests}
use Rattle.std.proofs.lemmas.List.{map-append}
use Rattle.fx_base.proofs.Lists.{each-append_parts, each-map}
use Rattle.fx_designs.specs.Galois.{IsField, number, digits}
use Rattle.fx_designs.specs.Vectors.{zeros, vectors_of, is_zero}
use Rattle.fx_designs.specs.Problems.{Dimensions}
use Rattle.fx_designs.specs.Canonical.{is_unit}
use Rattle.fx_laws.specs.Facts.{IsNormal}
use Rattle.fx_laws.specs.Changes.{unit}
use Rattle.fx_laws.specs.Reorders.{reordered}
use Rattle.fx_laws.proofs.Codes.{number-zeros, number-digits}
use Rattle.fx_laws.proofs.Space.{AreVectors}
use Rattle.fx_laws.proofs.Prefixes.{digits-unit}
use Rattle.fx_laws.proofs.Reorders.{units_from, each-reordered, reordered-append, reorder_behind}
use Rattle.fx_laws.proofs.Falling.{FallsStrictly}
use Rattle.fx_laws.proofs.CanonicalTest.{rows-vectors}
use Rattle.fx_reduction.proofs.Numbers.{back}
use Rattle.fx_base.proofs.Ranges.{each-range}
use Rattle.fx_strata.specs.Changes.{falling_order}
use Rattle.fx_strata.proofs.Lists.{order-falls, order_by_swaps, IsMember, Pulled, pull}
use Rattle.fx_laws.proofs.Falling.{free-units, free-strict}
use Rattle.fx_strata.proofs.Exchanges.{found_range, units-vectors, units-differ, is-unit, falls-weakly}
use Rattle.fx_strata.proofs.Exchanges.{reordered-map}
use Rattle.fx_strata.specs.Canonical.{units, AreLater}
use Rattle.fx_strata.proofs.Totals.{total-reordered, counted}
use Rattle.fx_strata.proofs.Free.{IsFree, word-free, free-back}

module _ (d : Dimensions) (f : IsField d.q) where
  some : 0 < d.q
  some = omega arith

  pub pow-less : (i j : ℕ) → i < j → d.q ^ i < d.q ^ j
  pow-less i j less =
      let next = pow-le-pow_right some less in
      let is = pow-suc d.q i in
      let one = one-le-pow i d.q some in
      let two : 2 ≤ d.q = omega arith in
      omega (arith, mul-le-mul_left (d.q ^ i) two)

  pub free-reordered : (ks : List ℕ) (vs : List (List ℕ)) → IsFree d.q d.m f vs → IsFree d.q d.m f (reordered ks vs)
  free-reordered ks vs h = record {
    one = cc (total-reordered d.q d.m f (counted d.q d.m f is_zero 1) ks vs);
    two = cc (total-reordered d.q d.m f (counted d.q d.m f is_zero 2) ks vs);
  }

  module _ (from len : ℕ) (room : from + len ≤ d.m) where
    -- a row of the stage that is none of its unit vectors is no unit vector
    no-unit : (r : ℕ) → d.q ^ from ≤ r → r < d.q ^ (from + len)
        → ((i : ℕ) → from ≤ i → i < from + len → unit d.m i ≡ digits d.q d.m r → ⊥) → is_unit d r ≡ false
    no-unit r low high none = elim (cases_Bool (is_unit d r)) [
      | inr o ↦ o
      | inl t ↦
          let found = found_range _ 0 d.m t in
          let is = eqb-true r _ found.3 in
          absurd (elim (cases_lt found.0 from) [
            | inl less ↦
                omega (arith, pow-less found.0 from less)
            | inr past ↦ elim (cases_lt found.0 (from + len)) [
              | inl inside ↦ none found.0 past inside (sym (cc (digits-unit d.q d.m found.0 f (omega arith))))
              | inr beyond ↦
                  omega (arith, pow-le-pow_right some beyond)
            ]
          ])
    ]

    -- each row is in the range of the stage
    pub record InStage (r : ℕ) : Type 0 where
      pub low : d.q ^ from ≤ r
      pub high : r < d.q ^ (from + len)

    none-units : (rs : List ℕ) → AllByRecursion (λ r. InStage r) rs
        → ((i : ℕ) → from ≤ i → i < from + len → AllByRecursion (λ v. unit d.m i ≡ v → ⊥) (vectors_of d.q d.m rs))
        → AllByRecursion (λ r. is_unit d r ≡ false) rs
    none-units [] h none = tt
    none-units (r ∷ rs) h none = (
      no-unit r h.0.low h.0.high (λ i a b. (none i a b).0),
      none-units rs h.1 (λ i a b. (none i a b).1),
    )

    -- rows of which none is a unit vector stay
    kept-all : (rs : List ℕ) → AllByRecursion (λ r. is_unit d r ≡ false) rs → filter (λ r. not (is_unit d r)) rs ≡ rs
    kept-all [] h = refl
    kept-all (r ∷ rs) h =
        cc (
          cond-true _ (r ∷ filter (λ r. not (is_unit d r)) rs) (filter (λ r. not (is_unit d r)) rs)
              (ap not h.0),
          kept-all rs h.1,
        )

    is-later : (rs : List ℕ) (bound : ℕ) → AllByRecursion (λ r. InStage r) rs
        → AllByRecursion (λ r. is_unit d r ≡ false) rs
        → AllByRecursion (λ r. IsNormal (digits d.q d.m r)) rs
        → FallsStrictly d.q (vectors_of d.q d.m rs)
        → AllByRecursion (λ r. r < d.q ^ d.m) rs
        → AllByRecursion (λ r. r < bound) rs
        → AreLater d from bound rs
    is-later [] bound h out normal falls low under = tt
    is-later (r ∷ rs) bound h out normal falls low under = (
      and_from _ _ (eq-eqb _ _ normal.0)
          (and_from _ _ (ap not out.0) (grind (arith, nat_tests, h.0.low))),
      under.0,
      is-later rs r h.1 out.1 normal.1 falls.1 low.1 (less rs low.1 falls.0),
    )
      where
        less : (zs : List ℕ) → AllByRecursion (λ r. r < d.q ^ d.m) zs
            → AllByRecursion (λ v. number d.q v < number d.q (digits d.q d.m r)) (vectors_of d.q d.m zs)
            → AllByRecursion (λ z. z < r) zs
        less [] l h = tt
        less (z ∷ zs) l h = (
          rw (number-digits d.q d.m z some l.0, number-digits d.q d.m r some low.0) at h.0,
          less zs l.1 h.1,
        )

    normals : (rs : List ℕ) → AllByRecursion (λ r. InStage r) rs → AllByRecursion (λ r. r < d.q ^ d.m) rs
        → AllByRecursion (λ v. (v ≡ zeros d.m) ⊎ IsNormal v) (vectors_of d.q d.m rs)
        → AllByRecursion (λ r. IsNormal (digits d.q d.m r)) rs
    normals [] h low n = tt
    normals (r ∷ rs) h low n = (
      elim (n.0) [
        | inr is ↦ is
        | inl z ↦
            let none : r ≡ 0 =
            cc (number-digits d.q d.m r some low.0, number-zeros d.q d.m) in
            absurd (omega (arith, one-le-pow from d.q some))
      ],
      normals rs h.1 low.1 n.1,
    )

    belows : (rs : List ℕ) → AllByRecursion (λ r. InStage r) rs
        → AllByRecursion (λ r. r < d.q ^ (from + len)) rs × AllByRecursion (λ r. r < d.q ^ d.m) rs
    belows [] h = (tt, tt)
    belows (r ∷ rs) h =
        let rest = belows rs h.1 in
        ((h.0.high, rest.0), (omega (arith, pow-le-pow_right some room), rest.1))

    -- the numbers of rows of the stage in order
    pub record Sorted (nums : List ℕ) : Type 0 where
      pub swaps : List ℕ
      pub is : reordered swaps nums ≡ units d.q from len ++ falling_order (filter (λ r. not (is_unit d r)) nums)
      pub later : AreLater d from (d.q ^ (from + len)) (falling_order (filter (λ r. not (is_unit d r)) nums))

    module _ (vs : List (List ℕ)) (hv : AreVectors d.q d.m vs) (free : IsFree d.q d.m f vs)
        (normal : AllByRecursion (λ v. (v ≡ zeros d.m) ⊎ IsNormal v) vs)
        (stage : AllByRecursion (λ r. InStage r) (map (number d.q) vs))
        (come : (i : ℕ) → from ≤ i → i < from + len → IsMember (d.q ^ i) (map (number d.q) vs)) where
      abbrev nums : List ℕ
      nums = map (number d.q) vs

      abbrev passes : ℕ → Bool
      passes r = not (is_unit d r)

      pulled : Pulled passes (units d.q from len) nums
      pulled = pull passes _ nums
          (each-map _ _ _
          (each-range (λ i. passes (d.q ^ i) ≡ false) from len (λ i low high. cc (is-unit d f i (omega arith)))))
          (units-differ d f from len room)
          (each-map _ _ _
          (each-range (λ i. IsMember (d.q ^ i) nums) from len come))

      rest-in : AllByRecursion (λ r. InStage r) pulled.rest
      rest-in = (each-append_parts (λ r. InStage r) (units d.q from len) pulled.rest
          (subst (AllByRecursion (λ r. InStage r)) pulled.is
          (each-reordered _ pulled.swaps nums stage))).1

      parts : reordered pulled.swaps vs ≡ units_from d.m from len ++ vectors_of d.q d.m pulled.rest
      parts =
          cc (
            back d.q d.m f vs hv,
            reordered-map (digits d.q d.m) pulled.swaps nums,
            pulled.is,
            map-append (digits d.q d.m) (units d.q from len) pulled.rest,
            units-vectors d f from len room,
          )

      parts-free : IsFree d.q d.m f (units_from d.m from len ++ vectors_of d.q d.m pulled.rest)
      parts-free = subst (IsFree d.q d.m f) parts (free-reordered pulled.swaps vs free)

      parts-vectors : AreVectors d.q d.m (units_from d.m from len ++ vectors_of d.q d.m pulled.rest)
      parts-vectors = subst (AreVectors d.q d.m) parts (each-reordered _ pulled.swaps vs hv)

      rest-out : AllByRecursion (λ r. is_unit d r ≡ false) pulled.rest
      rest-out = none-units pulled.rest rest-in
          (free-units d.q d.m f from len _ parts-vectors
          (word-free d.q d.m f _ parts-free)).1

      rest-free : IsFree d.q d.m f (vectors_of d.q d.m pulled.rest)
      rest-free = free-back d.q d.m f _ _
          (each-append_parts _ _ _
          parts-vectors).0
          (rows-vectors d.q d.m f pulled.rest) parts-free

      rest-normal : AllByRecursion (λ r. IsNormal (digits d.q d.m r)) pulled.rest
      rest-normal = normals pulled.rest rest-in (belows pulled.rest rest-in).1
          (each-append_parts (λ v. (v ≡ zeros d.m) ⊎ IsNormal v) (units_from d.m from len)
          (vectors_of d.q d.m pulled.rest)
          (subst (AllByRecursion (λ v. (v ≡ zeros d.m) ⊎ IsNormal v)) parts
          (each-reordered _ pulled.swaps vs normal))).1

      abbrev others : List ℕ
      others = falling_order pulled.rest

      -- what all have, all have in order
      in-order : (P : ℕ → Type 0) → AllByRecursion P pulled.rest → AllByRecursion P others
      in-order P h =
          let s = order_by_swaps pulled.rest in
          subst (AllByRecursion P) s.1 (each-reordered P s.0 pulled.rest h)

      others-free : IsFree d.q d.m f (vectors_of d.q d.m others)
      others-free =
          let s = order_by_swaps pulled.rest in
          subst (IsFree d.q d.m f)
          (cc (reordered-map (digits d.q d.m) s.0 pulled.rest, s.1))
          (free-reordered s.0 _ rest-free)

      others-fall : FallsStrictly d.q (vectors_of d.q d.m others)
      others-fall = free-strict d.q d.m f _ (rows-vectors d.q d.m f others)
          (word-free d.q d.m f _ others-free)
          (falls-weakly d f others (in-order _ (belows pulled.rest rest-in).1)
          (order-falls pulled.rest))

      others-later : AreLater d from (d.q ^ (from + len)) others
      others-later = is-later others _ (in-order _ rest-in)
          (in-order _ rest-out) (in-order _ rest-normal)
          others-fall
          (in-order _ (belows pulled.rest rest-in).1)
          (in-order _ (belows pulled.rest rest-in).0)

      same : filter passes nums ≡ pulled.rest
      same = cc (pulled.kept, kept-all pulled.rest rest-out)

      pub sorted : Sorted nums
      sorted =
          let s = order_by_swaps pulled.rest in
          let b = reorder_behind (units d.q from len) pulled.rest s.0 in
          record {
            swaps = pulled.swaps ++ b.0;
            is = cc (reordered-append pulled.swaps b.0 nums, pulled.is, same);
            later = rw same others-later;
          }
