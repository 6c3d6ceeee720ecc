-- What the test of canonical prefixes says.
use Rattle.std.proofs.Common.{ℕ, ◌≡◌, ◌<◌, ◌≤◌, ◌+◌, ◌-◌, ◌^◌, ◌⊎◌, min, true, false, not, ◌&&◌, ◌||◌, eqb, ltb, List}
use Rattle.std.proofs.Common.{[], ◌∷◌, length, take, slice_index, refl, sym, subst, ◌∙◌, ap, arith, inl, inr, zero-add}
use Rattle.std.specs.Bool.{Decides}
use Rattle.std.specs.List.{range_with_len, All}
use Rattle.std.proofs.lemmas.Bool.{and_parts, and_from, or_left, or_right, or_cases, eqb-true, eq-eqb, ne_eqb, ltb-true}
use Rattle.std.proofs.lemmas.Bool.{lt-ltb, le-ltb, leb-true, le-leb, cases_Bool, cases_eq, cases_lt, cond-true}
use Rattle.std.proofs.lemmas.Bool.{cond-false, not-true, not_from_false, both_ways}
use Rattle.std.proofs.lemmas.List.{length-map, get_or-map, take-map}
use Rattle.std.proofs.lemmas.List.Folds.{list_any_at, list_any_none}
use Rattle.std.proofs.lemmas.List.FromFn.{length-range_with_len, get_or-range_with_len}
use Rattle.std.proofs.lemmas.List.Elements.{All-from_get_or}
use Rattle.std.proofs.Math.Nat.{pow-le-pow_right}
use Rattle.fx_designs.specs.Galois.{IsField, digits}
use Rattle.fx_designs.specs.Vectors.{zeros, vectors_of, last_nonzero, is_normal}
use Rattle.fx_designs.specs.Spans.{in_span, rank_of}
use Rattle.fx_designs.specs.Problems.{Dimensions, Requirement, AtResolution, ForEffects}
use Rattle.fx_designs.specs.Canonical.{rank_at, follows_at, reaches_at, is_unit, falls_at, is_falling, is_canonical}
use Rattle.fx_laws.specs.Facts.{IsNormal}
use Rattle.fx_laws.specs.Changes.{unit}
use Rattle.fx_laws.specs.Canonical.{AreFalling, IsOrdered, IsCanonicalPrefix, row}
use Rattle.fx_laws.proofs.Codes.{digits-vector, digits-number, number-digits, number-zeros}
use Rattle.fx_laws.proofs.Space.{AreVectors, zeros-vector}
use Rattle.fx_laws.proofs.Ranks.{in_span-holds}
use Rattle.fx_laws.proofs.Raises.{none-combination}
use Rattle.fx_laws.proofs.Prefixes.{number-unit, digits-unit, unit-past}
use Rattle.fx_laws.proofs.Tests.{all_decides, range_decides}

pub rows-vectors : (q m : ℕ) (f : IsField q) (rows : List ℕ) → AreVectors q m (vectors_of q m rows)
rows-vectors q m f [] = tt
rows-vectors q m f (r ∷ rows) = (digits-vector q m r (omega (arith, f.more_than_one)), rows-vectors q m f rows)

pub take-vectors : (q m k : ℕ) (rows : List ℕ) → take k (vectors_of q m rows) ≡ vectors_of q m (take k rows)
take-vectors q m k rows = take-map (λ r. digits q m r) k rows

pow_room : (q n m : ℕ) → 0 < q → q ^ n < q ^ m → n < m
pow_room q n m some h = elim (cases_lt n m) [
  | inl low ↦ low
  | inr past ↦ let wide : q ^ m ≤ q ^ n = pow-le-pow_right some past in absurd (omega arith)
]

module _ (d : Dimensions) (f : IsField d.q) (rows : List ℕ) where
  some : 0 < d.q
  some = omega (arith, f.more_than_one)

  abbrev vectors : List (List ℕ)
  vectors = vectors_of d.q d.m rows

  pub row-is : (k : ℕ) → k < length rows → row vectors k ≡ digits d.q d.m (slice_index rows k)
  row-is k h = get_or-map (λ r. digits d.q d.m r) rows k 0 [] h

  -- what canonical rows ask of row k
  pub record Follows (k : ℕ) : Type 0 where
    pub new : in_span d.q d.m (take k vectors) (row vectors k) ≡ false
        → row vectors k ≡ unit d.m (rank_of d.q d.m (take k vectors))
    pub old : in_span d.q d.m (take k vectors) (row vectors k) ≡ true
        → (row vectors k ≡ zeros d.m) ⊎ IsNormal (row vectors k)

  span-is : (k : ℕ) → k < length rows
      → in_span d.q d.m (vectors_of d.q d.m (take k rows)) (digits d.q d.m (slice_index rows k))
      ≡ in_span d.q d.m (take k vectors) (row vectors k)
  span-is k h = rw (take-vectors d.q d.m k rows, row-is k h) refl

  rank-is : (k : ℕ) → rank_at d rows k ≡ rank_of d.q d.m (take k vectors)
  rank-is k = rw (take-vectors d.q d.m k rows) refl

  pub zero_row : (k : ℕ) → k < length rows → slice_index rows k < d.q ^ d.m → row vectors k ≡ zeros d.m
      → slice_index rows k ≡ 0
  zero_row k h low z =
      cc (number-digits d.q d.m (slice_index rows k) some low, row-is k h, z, number-zeros d.q d.m)

  row_zero : (k : ℕ) → k < length rows → slice_index rows k ≡ 0 → row vectors k ≡ zeros d.m
  row_zero k h z =
      cc (row-is k h, z, number-zeros d.q d.m, digits-number d.q d.m (zeros d.m) (zeros-vector d.q d.m f))

  -- a row outside the span is not past the last unit vector
  pub room : (k : ℕ) → k < length rows → in_span d.q d.m (take k vectors) (row vectors k) ≡ false
      → row vectors k ≡ unit d.m (rank_of d.q d.m (take k vectors)) → rank_of d.q d.m (take k vectors) < d.m
  room k h out is = elim (cases_lt (rank_of d.q d.m (take k vectors)) d.m) [
    | inl low ↦ low
    | inr past ↦
        let bs : List (List ℕ) = take k vectors in
        let zero_is : row vectors k ≡ zeros d.m = is ∙ unit-past d.m (rank_of d.q d.m bs) past in
        let hb : AreVectors d.q d.m bs =
        subst (AreVectors d.q d.m) (sym (take-vectors d.q d.m k rows)) (rows-vectors d.q d.m f (take k rows)) in
        let there : in_span d.q d.m bs (row vectors k) ≡ true =
        in_span-holds d.q d.m f bs _
        (record {
          by = zeros (length bs);
          vector = zeros-vector d.q (length bs) f;
          gives = none-combination d.q d.m f (length bs) bs hb ∙ sym zero_is;
        }) in
        absurd (both_ways _ out there)
  ]

  follows_decides : (k : ℕ) → k < length rows → slice_index rows k < d.q ^ d.m
      → Decides (follows_at d rows k) (Follows k)
  follows_decides k h low =
      let s = in_span d.q d.m (vectors_of d.q d.m (take k rows)) (digits d.q d.m (slice_index rows k)) in
      elim (cases_Bool (in_span d.q d.m (take k vectors) (row vectors k))) [
        | inl inside ↦
            let is : s ≡ true = span-is k h ∙ inside in
            let test : follows_at d rows k
            ≡ (eqb (slice_index rows k) 0 || is_normal (digits d.q d.m (slice_index rows k))) =
            cond-true s _ _ is in (
              λ e. record {
                new = λ out. absurd (both_ways _ out inside);
                old = λ i. elim (or_cases _ _ (sym test ∙ e)) [
                  | inl z ↦ inl (row_zero k h (eqb-true _ _ z))
                  | inr n ↦ inr (ap last_nonzero (row-is k h) ∙ eqb-true _ _ n)
                ];
              },
              λ w. test ∙ elim (w.old inside) [
                | inl z ↦ or_left _ _ (eq-eqb _ _ (zero_row k h low z))
                | inr n ↦ or_right _ _ (eq-eqb _ _ (ap last_nonzero (sym (row-is k h)) ∙ n))
              ],
            )
        | inr outside ↦
            let is : s ≡ false = span-is k h ∙ outside in
            let test : follows_at d rows k
            ≡ eqb (slice_index rows k) (d.q ^ rank_at d rows k) = cond-false s _ _ is in (
              λ e.
                  let r : slice_index rows k ≡ d.q ^ rank_of d.q d.m (take k vectors) =
                  cc (eqb-true _ _ (sym test ∙ e), rank-is k) in
                  record {
                    new = λ out. cc (
                      row-is k h,
                      r,
                      digits-unit d.q d.m (rank_of d.q d.m (take k vectors)) f
                          (pow_room d.q (rank_of d.q d.m (take k vectors)) d.m some (subst (λ z. z < d.q ^ d.m) r low)),
                    );
                    old = λ i. absurd (both_ways _ outside i);
                  },
              λ w. test ∙ eq-eqb _ _
                  (cc (
                    number-digits d.q d.m (slice_index rows k) some low,
                    row-is k h,
                    w.new outside,
                    number-unit d.q d.m (rank_of d.q d.m (take k vectors)) (room k h outside (w.new outside)),
                    rank-is k,
                  )),
            )
      ]

  reaches_decides : (k : ℕ) → Decides (reaches_at d rows k) (min d.s d.m ≤ rank_of d.q d.m (take k vectors) + (d.s - k))
  reaches_decides k = (
    λ e. rw (rank-is k) at (leb-true _ _ e),
    λ h. le-leb _ _
        (rw (rank-is k) h),
  )

  -- what falling rows ask of row k
  pub record Falls (k : ℕ) : Type 0 where
    pub unit_at : k < min d.s d.m → slice_index rows k ≡ d.q ^ k
    pub no_zero : min d.s d.m ≤ k → slice_index rows k ≡ 0 → ⊥
    pub no_unit : (i : ℕ) → min d.s d.m ≤ k → i < d.m → slice_index rows k ≡ d.q ^ i → ⊥
    pub less : min d.s d.m < k → slice_index rows k < slice_index rows (k - 1)

  is_unit-at : (r i : ℕ) → i < d.m → r ≡ d.q ^ i → is_unit d r ≡ true
  is_unit-at r i h e =
      list_any_at (λ i. eqb r (d.q ^ i)) (range_with_len 0 d.m) i 0
      (rw (length-range_with_len 0 d.m) h)
      (rw (get_or-range_with_len 0 d.m i 0 h ∙ zero-add i) (eq-eqb _ _ e))

  is_unit-none : (r : ℕ) → ((i : ℕ) → i < d.m → r ≡ d.q ^ i → ⊥) → is_unit d r ≡ false
  is_unit-none r none =
      list_any_none (λ i. eqb r (d.q ^ i)) (range_with_len 0 d.m)
      (All-from_get_or (λ i. eqb r (d.q ^ i) ≡ false) (range_with_len 0 d.m) 0 (λ i h.
      let low : i < d.m = rw (length-range_with_len 0 d.m) at h in
      rw (get_or-range_with_len 0 d.m i 0 low ∙ zero-add i) (ne_eqb _ _ (none i low))))

  falls_decides : (k : ℕ) → Decides (falls_at d rows k) (Falls k)
  falls_decides k =
      let r : ℕ = slice_index rows k in
      let later = ltb 0 r && (not (is_unit d r) && (eqb k (min d.s d.m) || ltb r (slice_index rows (k - 1)))) in
      elim (cases_lt k (min d.s d.m)) [
        | inl low ↦
            let test : falls_at d rows k ≡ eqb r (d.q ^ k) = cond-true (ltb k (min d.s d.m)) _ _ (lt-ltb _ _ low) in (
              λ e. record {
                unit_at = λ h. eqb-true _ _ (sym test ∙ e);
                no_zero = λ h. absurd (omega arith);
                no_unit = λ i h. absurd (omega arith);
                less = λ h. absurd (omega arith);
              },
              λ w. test ∙ eq-eqb _ _ (w.unit_at low),
            )
        | inr high ↦
            let test : falls_at d rows k ≡ later = cond-false (ltb k (min d.s d.m)) _ _ (le-ltb _ _ high) in (
              λ e.
                  let p = and_parts _ _ (sym test ∙ e) in
                  let p2 = and_parts _ _ p.1 in
                  let some_row : 0 < r = ltb-true _ _ p.0 in
                  record {
                    unit_at = λ h. absurd (omega arith);
                    no_zero = λ h z. omega arith;
                    no_unit = λ i h room z. both_ways _ (not-true _ p2.0) (is_unit-at r i room z);
                    less = λ h. elim (or_cases _ _ p2.1) [
                      | inl same ↦ let same' : k ≡ min d.s d.m = eqb-true _ _ same in absurd (omega arith)
                      | inr lt ↦
                          ltb-true _ _ lt
                    ];
                  },
              λ w.
                  let positive : 0 < r =
                  (let nz = w.no_zero high in elim (cases_lt 0 r) [ inl a ↦ a | inr b ↦ absurd (nz (omega arith)) ])
                  in
                  let last : (eqb k (min d.s d.m) || ltb r (slice_index rows (k - 1))) ≡ true =
                  elim (cases_eq k (min d.s d.m)) [
                    | inl same ↦ or_left _ _ (eq-eqb _ _ same)
                    | inr other ↦ or_right _ _ (lt-ltb _ _ (w.less (omega arith)))
                  ] in
                  test ∙ and_from _ _ (lt-ltb _ _ positive)
                  (and_from _ _ (not_from_false _ (is_unit-none r (λ i room z. w.no_unit i high room z))) last),
            )
      ]

  ordered_falls : (r k : ℕ) → AreFalling d.q d.m d.s rows → k < min d.s (length rows) → Falls k
  ordered_falls r k h low = record {
    unit_at = λ a. h.units k a (omega arith);
    no_zero = λ a. h.no_zero k a low;
    no_unit = λ i a room. h.no_unit k i a low room;
    less = λ a. let e : (k - 1) + 1 ≡ k = omega arith in
        rw e at (h.falls (k - 1) (omega arith) (omega arith));
  }

  falls_ordered : ((k : ℕ) → k < min d.s (length rows) → Falls k) → AreFalling d.q d.m d.s rows
  falls_ordered h = record {
    units = λ k a long. (h k (omega arith)).unit_at a;
    no_zero = λ k a low. (h k low).no_zero a;
    no_unit = λ k i a low room. (h k low).no_unit i a room;
    falls = λ k a low. let e : (k + 1) - 1 ≡ k = omega arith in
        subst (λ n. slice_index rows (k + 1) < slice_index rows n) e ((h (k + 1) low).less (omega arith));
  }

  ordered_decides : (wanted : Requirement) → Decides (is_falling d wanted rows) (IsOrdered d wanted rows)
  ordered_decides (AtResolution r) =
      let each = range_decides (falls_at d rows) (min d.s (length rows)) in (
        λ e. falls_ordered (λ k low. (falls_decides k).0 (each.0 e k low)),
        λ h. each.1 (λ k low. (falls_decides k).1 (ordered_falls r k h low)),
      )
  ordered_decides (ForEffects estimate besides) = (λ e. tt, λ h. refl)

  pub canonical_decides : (wanted : Requirement)
      → Decides (is_canonical d wanted rows) (IsCanonicalPrefix d wanted rows)
  unfolding is_canonical
  canonical_decides wanted =
      let below_each =
      all_decides (λ r. ltb r (d.q ^ d.m)) (λ r. r < d.q ^ d.m) (λ r. (λ e. ltb-true _ _ e, λ h. lt-ltb _ _ h)) rows
      in
      let follows_each = range_decides (follows_at d rows) (length rows) in
      let reaches_each = range_decides (reaches_at d rows) (min d.s (length rows) + 1) in
      let width : length vectors ≡ length rows = length-map rows (λ r. digits d.q d.m r) in (
        λ e.
            let p = and_parts _ _ e in
            let p1 = and_parts _ _ p.1 in
            let p2 = and_parts _ _ p1.1 in
            let p3 = and_parts _ _ p2.1 in
            let below : All (λ r. r < d.q ^ d.m) rows = below_each.0 p1.0 in
            let at : (k : ℕ) → k < length rows → Follows k =
            λ k h. (follows_decides k h (below k 0 h)).0 (follows_each.0 p2.0 k h) in
            record {
              len = leb-true _ _ p.0;
              below = below;
              canonical = record {
                new_is_unit = λ k h. (at k (omega arith)).new;
                old_is_normal = λ k h. (at k (omega arith)).old;
                reach = λ k h h'. (reaches_decides k).0 (reaches_each.0 p3.0 k (omega arith));
              };
              ordered = (ordered_decides wanted).0 p3.1;
            },
        λ h.
            let low : (k : ℕ) → k < length rows → slice_index rows k < d.q ^ d.m = λ k small. h.below k 0 small in
            and_from _ _ (le-leb _ _ h.len) (and_from _ _ (below_each.1 h.below)
            (and_from _ _
            (follows_each.1
            (λ k small. (follows_decides k small (low k small)).1
            (record {
              new = h.canonical.new_is_unit k (omega arith);
              old = h.canonical.old_is_normal k (omega arith);
            })))
            (and_from _ _
            (reaches_each.1 (λ k small. (reaches_decides k).1 (h.canonical.reach k (omega arith) (omega arith))))
            ((ordered_decides wanted).1 h.ordered)))),
      )
