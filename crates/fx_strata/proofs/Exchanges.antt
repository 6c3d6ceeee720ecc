-- A change of the run indexes that takes some rows to the unit vectors is invertible, in the words of numbers.
use Rattle.std.proofs.Common.{ℕ, ◌≡◌, ◌<◌, ◌≤◌, ◌+◌, ◌^◌, zero, suc, Bool, true, eqb, List, [], ◌∷◌}
use Rattle.std.proofs.Common.{◌++◌, map, length, refl, sym, subst, ◌∙◌, ap, arith, inl, inr}
use Rattle.std.proofs.Common.{eqb-true, eq-eqb}
use Rattle.std.specs.List.{AllByRecursion, list_all, list_any, range_with_len}
use Rattle.std.proofs.lemmas.Bool.{cases_eq, or_cases, or_left, or_right, and_parts}
use Rattle.std.proofs.lemmas.List.{length-map}
use Rattle.fx_designs.specs.Galois.{IsField, number, digits}
use Rattle.fx_designs.specs.Vectors.{IsVector, scale, vectors_of}
use Rattle.fx_designs.specs.Runs.{levels_at}
use Rattle.fx_designs.specs.Problems.{Dimensions}
use Rattle.fx_designs.specs.Canonical.{is_unit}
use Rattle.fx_laws.specs.Changes.{IsChange, unit, IsShort}
use Rattle.fx_laws.specs.Scalings.{scaled}
use Rattle.fx_laws.specs.Reorders.{swapped, reordered}
use Rattle.fx_laws.proofs.Codes.{number-digits, digits-vector}
use Rattle.fx_laws.proofs.Linear.{levels-scale}
use Rattle.fx_laws.proofs.Space.{AreVectors, scale-vector}
use Rattle.fx_laws.proofs.Changes.{unit-vector, unit_short}
use Rattle.fx_laws.proofs.Ranks.{number-same, unit-long}
use Rattle.fx_laws.proofs.Prefixes.{number-unit, digits-unit}
use Rattle.fx_laws.proofs.Forms.{normal_factor}
use Rattle.fx_laws.proofs.Reorders.{units_from, FallsWeakly}
use Rattle.fx_laws.proofs.Follows.{short-le}
use Rattle.fx_base.proofs.Lists.{each-map}
use Rattle.fx_base.proofs.Ranges.{each-range}
use Rattle.fx_strata.specs.Changes.{moved}
use Rattle.fx_strata.proofs.Lists.{Falls, IsMember, Differ}
use Rattle.fx_strata.proofs.Change.{is-change, by-vector}

-- ranges
pub all_range : (p : ℕ → Bool) (a n : ℕ) → list_all p (range_with_len a n) ≡ true → (i : ℕ) → a ≤ i → i < a + n
    → p i ≡ true
all_range p a zero h i low high = absurd (omega arith)
all_range p a (suc n) h i low high =
    let parts = and_parts (p a) (list_all p (range_with_len (a + 1) n)) h in
    elim (cases_eq a i) [
      | inl e ↦ cc parts.0
      | inr ne ↦ all_range p (a + 1) n parts.1 i (omega arith) (omega arith)
    ]

pub any_range : (p : ℕ → Bool) (a n i : ℕ) → a ≤ i → i < a + n → p i ≡ true → list_any p (range_with_len a n) ≡ true
any_range p a zero i low high h = absurd (omega arith)
any_range p a (suc n) i low high h =
    elim (cases_eq a i) [
      | inl e ↦ or_left _ _ (ap p e ∙ h)
      | inr ne ↦ or_right _ _ (any_range p (a + 1) n i (omega arith) (omega arith) h)
    ]

-- one of the numbers from a on passes
pub found_range : (p : ℕ → Bool) (a n : ℕ) → list_any p (range_with_len a n) ≡ true
    → (i : ℕ) × (a ≤ i) × (i < a + n) × (p i ≡ true)
found_range p a zero h = cc h
found_range p a (suc n) h = elim (or_cases _ _ h) [
  | inl t ↦ (a, omega arith, omega arith, t)
  | inr t ↦ (let r = found_range p (a + 1) n t in (r.0, omega arith, omega arith, r.3))
]

-- swaps before and after a map
swapped-map : {X Y : Type 0} (g : X → Y) (k : ℕ) (xs : List X) → map g (swapped k xs) ≡ swapped k (map g xs)
swapped-map g zero [] = refl
swapped-map g zero (x ∷ []) = refl
swapped-map g zero (x ∷ y ∷ xs) = refl
swapped-map g (suc k) [] = refl
swapped-map g (suc k) (x ∷ xs) = cc (swapped-map g k xs)

pub reordered-map : {X Y : Type 0} (g : X → Y) (ks : List ℕ) (xs : List X)
    → map g (reordered ks xs) ≡ reordered ks (map g xs)
reordered-map g [] xs = refl
reordered-map g (k ∷ ks) xs = cc (reordered-map g ks (swapped k xs), swapped-map g k xs)

pub member-left : (x : ℕ) (xs ys : List ℕ) → IsMember x xs → IsMember x (xs ++ ys)
member-left x [] ys h = absurd h
member-left x (y ∷ xs) ys (inl e) = inl e
member-left x (y ∷ xs) ys (inr h) = inr (member-left x xs ys h)

pub any_member : (g : ℕ → ℕ) (x : ℕ) (rows : List ℕ) → list_any (λ r. eqb (g r) x) rows ≡ true → IsMember x (map g rows)
any_member g x [] h = cc h
any_member g x (r ∷ rows) h = elim (or_cases _ _ h) [
  | inl e ↦ inl (eqb-true _ x e)
  | inr k ↦ inr (any_member g x rows k)
]

-- each unit vector is the image of one of the rows
abbrev pub IsExchange : Dimensions → List ℕ → List ℕ → Type 0
IsExchange d change rows = (i : ℕ) → i < d.m → IsMember (d.q ^ i) (map (moved d change) rows)

module _ (d : Dimensions) (f : IsField d.q) where
  some : 0 < d.q
  some = omega arith

  -- the unit vectors and their numbers
  pub units-vectors : (k j : ℕ) → k + j ≤ d.m
      → vectors_of d.q d.m (map (λ i. d.q ^ i) (range_with_len k j)) ≡ units_from d.m k j
  units-vectors k zero h = refl
  units-vectors k (suc j) h =
      cc (
        digits-unit d.q d.m k f (omega arith),
        subst (λ n. vectors_of d.q d.m (map (λ i. d.q ^ i) (range_with_len (k + 1) j)) ≡ units_from d.m n j)
            (let e : k + 1 ≡ suc k = omega arith in e) (units-vectors (k + 1) j (omega arith)),
      )

  apart : (i j : ℕ) → i < j → j < d.m → d.q ^ i ≡ d.q ^ j → ⊥
  apart i j less low e =
      let same : unit d.m i ≡ unit d.m j = cc (digits-unit d.q d.m i f (omega arith), digits-unit d.q d.m j f low) in
      unit-long d.m j low (subst (IsShort j) same (short-le (suc i) j _ (omega arith) (unit_short d.m i)))

  pub units-differ : (k j : ℕ) → k + j ≤ d.m → Differ (map (λ i. d.q ^ i) (range_with_len k j))
  units-differ k zero h = tt
  units-differ k (suc j) h = (
    each-map _ _ _
        (each-range (λ i. d.q ^ k ≡ d.q ^ i → ⊥) (k + 1) j (λ i low high. apart k i (omega arith) (omega arith))),
    units-differ (k + 1) j (omega arith),
  )

  pub is-unit : (i : ℕ) → i < d.m → is_unit d (d.q ^ i) ≡ true
  is-unit i h = any_range (λ j. eqb (d.q ^ i) (d.q ^ j)) 0 d.m i (omega arith) (omega arith)
      (eq-eqb _ _ refl)

  pub falls-weakly : (ys : List ℕ) → AllByRecursion (λ r. r < d.q ^ d.m) ys → Falls ys
      → FallsWeakly d.q (vectors_of d.q d.m ys)
  falls-weakly [] low h = tt
  falls-weakly (y ∷ ys) low h = (each ys low.1 h.0, falls-weakly ys low.1 h.1)
    where
      each : (zs : List ℕ) → AllByRecursion (λ r. r < d.q ^ d.m) zs → AllByRecursion (λ z. z ≤ y) zs
          → AllByRecursion (λ v. number d.q v ≤ number d.q (digits d.q d.m y)) (vectors_of d.q d.m zs)
      each [] low' h = tt
      each (z ∷ zs) low' h =
          (rw (number-digits d.q d.m z some low'.0, number-digits d.q d.m y some low.0) h.0, each zs low'.1 h.1)

  module _ (change : List ℕ) (count : length change ≡ d.m) where
    abbrev pub by : List ℕ → List ℕ
    by v = levels_at d.q (vectors_of d.q d.m change) v

    pub many : length (vectors_of d.q d.m change) ≡ d.m
    many = cc (length-map change (digits d.q d.m))

    -- vectors that the change takes to the unit vectors
    pub preimage : (i : ℕ) (rows : List ℕ) → i < d.m → IsMember (d.q ^ i) (map (moved d change) rows)
        → (w : List ℕ) × IsVector d.q d.m w × (by w ≡ unit d.m i)
    preimage i [] low h = absurd h
    preimage i (r ∷ rows) low (inr h) = preimage i rows low h
    preimage i (r ∷ rows) low (inl e) =
        let v = digits d.q d.m r in
        let c = normal_factor d.q d.m f (by v) in
        let hb =
        scale-vector d.q d.m f c _ (by-vector d.q d.m f _ many v) in (
          scale d.q c v,
          scale-vector d.q d.m f c v (digits-vector d.q d.m r some),
          (levels-scale d.q f (vectors_of d.q d.m change) c v) ∙ number-same d.q d.m f _ _ hb (unit-vector d.q d.m i f)
              (e ∙ sym (number-unit d.q d.m i low)),
        )

    pub preimages : (rows : List ℕ) → IsExchange d change rows → (k j : ℕ) → k + j ≤ d.m
        → (ws : List (List ℕ)) × AreVectors d.q d.m ws × (map by ws ≡ units_from d.m k j)
    preimages rows h k zero room = ([], tt, refl)
    preimages rows h k (suc j) room =
        let one = preimage k rows (omega arith) (h k (omega arith)) in
        let more = preimages rows h (suc k) j (omega arith) in
        (one.0 ∷ more.0, (one.1, more.1), cc)

    pub invertible : (rows : List ℕ) → IsExchange d change rows → IsChange d.q d.m by
    invertible rows h =
        let ws = preimages rows h 0 d.m (omega arith) in
        is-change d.q d.m f _ many ws.0 ws.1 ws.2

    -- the normal multiples of what the change makes of rows
    abbrev pub changed : List ℕ → List (List ℕ)
    changed rows = map by (vectors_of d.q d.m rows)

    abbrev pub normed : List ℕ → List (List ℕ)
    normed rows = scaled d.q (map (normal_factor d.q d.m f) (changed rows)) (changed rows)

    pub numbers : (rows : List ℕ) → map (number d.q) (normed rows) ≡ map (moved d change) rows
    numbers [] = refl
    numbers (r ∷ rows) = cc (numbers rows)
