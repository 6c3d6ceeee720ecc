-- Places that stand for all vectors with their last factor right after some rows.
use Rattle.std.proofs.Common.{ℕ, ◌≡◌, ◌≢◌, ◌<◌, ◌≤◌, ◌+◌, ◌-◌, ◌^◌, zero, suc, cond, eqb, List, [], ◌∷◌}
use Rattle.std.proofs.Common.{◌++◌, length, length-append, slice_index, refl, sym, subst, ap, ◌∙◌, arith, inl, inr}
use Rattle.std.proofs.lemmas.Bool.{cases_eq, cases_lt, eq-eqb, ne_eqb}
use Rattle.std.proofs.lemmas.List.{get_or_append_left}
use Rattle.std.proofs.Math.Seq.{get_or-append_seam}
use Rattle.fx_demands.specs.declared.forbidden_list.ForbiddenVector.{ForbiddenVector}
use Rattle.fx_barred.specs.FirstWords.{sum_to, vector_at, HasSum, IsFirst, AreFirst}
use Rattle.fx_barred.specs.Places.{HasLast, AreAlike, IsStoodFor, StandFor, ArePlaced, IsListed, IsKnown}

-- what is not 0 stays so
pub stays-some : (place k x : ℕ) (tables other : List ℕ)
    → ((j : ℕ) → j ≢ place → slice_index other j ≡ slice_index tables j)
    → slice_index other place ≡ cond (eqb (slice_index tables place) 0) (k + 1) (slice_index tables place)
    → slice_index tables x ≢ 0 → slice_index other x ≢ 0
stays-some place k x tables other others here some z =
    elim (cases_eq x place) [
      | inl same ↦
          let old : slice_index tables place ≢ 0 = λ e. some (ap (slice_index tables) same ∙ e) in
          let made = here ∙ ap (λ t. cond t (k + 1) (slice_index tables place))
          (ne_eqb (slice_index tables place) 0 old) in
          old (sym made ∙ ap (slice_index other) (sym same) ∙ z)
      | inr apart ↦ some (sym (others x apart) ∙ z)
    ]

module _ (q m : ℕ) (rows : List ℕ) (words : List ForbiddenVector) (i : ℕ) where
  -- one row later vectors are as alike
  alike-next : (d p k : ℕ) → d < i → AreAlike q m rows words i d p k → AreAlike q m rows words i (suc d) p k
  alike-next d p k low h =
      record {
        sum =
            cc (h.codes d (let same : d ≤ d = omega arith in same) low);
        codes = λ x le less. h.codes x (omega arith) less;
      }

  -- and so more rows later
  pub alike-later : (n d p k : ℕ) → d + n ≤ i → AreAlike q m rows words i d p k
      → AreAlike q m rows words i (d + n) p k
  alike-later zero d p k low h = subst (λ (e : ℕ). AreAlike q m rows words i e p k) (omega arith) h
  alike-later (suc n) d p k low h =
      subst (λ (e : ℕ). AreAlike q m rows words i e p k) (omega arith)
      (alike-next (d + n) p k (omega arith) (alike-later n d p k (omega arith) h))

  -- so the places stand for all as well
  pub stand-later : (d e : ℕ) (at : ℕ → ℕ) (count : ℕ) → d ≤ e → e ≤ i → StandFor q m rows words i d at count
      → StandFor q m rows words i e at count
  stand-later d e at count le low h =
      record {
        each = h.each;
        rising = h.rising;
        all = λ k has.
            (let s = h.all k has in
            record {
              index = s.index;
              low = s.low;
              before = s.before;
              alike =
                  subst (λ x. AreAlike q m rows words i x (at s.index) k) (omega arith)
                  (alike-later (e - d) d (at s.index) k (omega arith) s.alike);
            });
      }

  -- all places together stand for all
  pub stand-range : (d start end : ℕ) → start ≤ end
      → ((k : ℕ) → HasLast words i k → (start ≤ k) × (k < end))
      → ((k : ℕ) → start ≤ k → k < end → HasLast words i k)
      → StandFor q m rows words i d (λ j. start + j) (end - start)
  stand-range d start end le within has =
      record {
        each = λ x low. has (start + x) (omega arith) (omega arith);
        rising = λ x y less low. (omega arith);
        all = λ k is.
            (let w = within k is in
            let back : start + (k - start) ≡ k = omega arith in
            record {
              index = k - start;
              low = omega arith;
              before = omega arith;
              alike =
                  record {
                    sum = cc;
                    codes = λ x _ _. cc;
                  };
            });
      }

  module _ (at : ℕ → ℕ) (count : ℕ) where
    -- a vector has the sum of the one that stands for it
    stands-sum : (y k : ℕ) (h : StandFor q m rows words i i at count) (has : HasSum q m rows words i y k)
        (s : IsStoodFor q m rows words i i at count k) → HasSum q m rows words i y (at s.index)
    stands-sum y k h has s =
        let is = h.each s.index s.low in
        record { there = is.there; last = is.last; sum = cc s.alike.sum }

    last-of : (y k : ℕ) → HasSum q m rows words i y k → HasLast words i k
    last-of y k has = record { there = has.there; last = has.last }

    -- no place
    pub placed-start : (first : ℕ) (tables : List ℕ) → ((y : ℕ) → y < q ^ m → slice_index tables (first + y) ≡ 0)
        → ArePlaced q m rows words i at 0 first tables
    placed-start first tables clear =
        record {
          none = λ y low z x none. absurd (omega arith);
          some = λ y k low e. (let z = clear y low in absurd (omega arith));
        }

    -- one place more
    pub placed-more : (j first y0 : ℕ) (tables other : List ℕ) → StandFor q m rows words i i at count → j < count
        → HasSum q m rows words i y0 (at j) → y0 < q ^ m
        → ((x : ℕ) → x ≢ first + y0 → slice_index other x ≡ slice_index tables x)
        → slice_index other (first + y0)
        ≡ cond (eqb (slice_index tables (first + y0)) 0) (at j + 1) (slice_index tables (first + y0))
        → ArePlaced q m rows words i at j first tables → ArePlaced q m rows words i at (j + 1) first other
    placed-more j first y0 tables other stand there has low0 others here h =
        let old = slice_index tables (first + y0) in
        record {
          none = λ y low z x less t.
              elim (cases_eq y y0) [
                | inl same ↦
                    let now : slice_index other (first + y0) ≡ 0 =
                    cc in
                    elim (cases_eq old 0) [
                      | inl none ↦
                          let made = here ∙ ap (λ t. cond t (at j + 1) old) (eq-eqb old 0 none) in
                          absurd (omega arith)
                      | inr some ↦
                          let made = here ∙ ap (λ t. cond t (at j + 1) old) (ne_eqb old 0 some) in
                          absurd (some (sym made ∙ now))
                    ]
                | inr apart ↦
                    let kept = others (first + y) (λ e. apart (omega arith)) in
                    elim (cases_eq x j) [
                      | inl last ↦
                          apart
                          (sym t.sum ∙ ap (λ k. sum_to q m rows (vector_at words (at k)) i) last ∙ has.sum)
                      | inr before ↦ h.none y low (sym kept ∙ z) x (omega arith) t
                    ]
              ];
          some = λ y k low e.
              elim (cases_eq y y0) [
                | inl same ↦
                    let now : slice_index other (first + y0) ≡ suc k =
                    cc in
                    rw same (elim (cases_eq old 0) [
                      | inl none ↦
                          let made = here ∙ ap (λ t. cond t (at j + 1) old) (eq-eqb old 0 none) in
                          let is : at j ≡ k = omega arith in
                          subst (λ k. IsFirst q m rows words i y0 k) is
                          (record {
                            here = has;
                            none_before = λ l less t.
                                (let s = stand.all l (last-of y0 l t) in
                                elim (cases_lt s.index j) [
                                  | inl early ↦ h.none y0 low0 none s.index early (stands-sum y0 l stand t s)
                                  | inr late ↦
                                      elim (cases_eq s.index j) [
                                        | inl at_j ↦
                                            let eq = ap at at_j in
                                            let le = s.before in
                                            absurd (omega arith)
                                        | inr after ↦
                                            let up = stand.rising j s.index (omega arith) s.low in
                                            let le = s.before in
                                            absurd (omega arith)
                                      ]
                                ]);
                          })
                      | inr some ↦
                          let made = here ∙ ap (λ t. cond t (at j + 1) old) (ne_eqb old 0 some) in
                          h.some y0 k low0 (sym made ∙ now)
                    ])
                | inr apart ↦
                    let kept = others (first + y) (λ e. apart (omega arith)) in
                    h.some y k low (sym kept ∙ e)
              ];
        }

    -- all places
    pub placed-end : (first : ℕ) (tables : List ℕ) → StandFor q m rows words i i at count
        → ArePlaced q m rows words i at count first tables
        → AreFirst q m rows words i (length words) first tables
    placed-end first tables stand h =
        record {
          none = λ y low z.
              record {
                none = λ k _ t.
                    (let s = stand.all k (last-of y k t) in
                    h.none y low z s.index s.low (stands-sum y k stand t s));
              };
          some = h.some;
        }

    -- once each sum has its vector
    pub placed-full : (j first : ℕ) (tables : List ℕ)
        → ((y : ℕ) → y < q ^ m → slice_index tables (first + y) ≢ 0)
        → ArePlaced q m rows words i at j first tables → AreFirst q m rows words i (length words) first tables
    placed-full j first tables full h = record { none = λ y low z. absurd (full y low z); some = h.some }

  module _ (d : ℕ) (at : ℕ → ℕ) (count : ℕ) where
    -- vectors that are like one that is like a third
    alike-across : (a b k : ℕ) → AreAlike q m rows words i d a b → AreAlike q m rows words i d b k
        → AreAlike q m rows words i d a k
    alike-across a b k h g =
        record { sum = cc; codes = λ x le less. h.codes x le less ∙ g.codes x le less }

    -- the same place
    alike-same : (a k : ℕ) → a ≡ k → AreAlike q m rows words i d a k
    alike-same a k e =
        record {
          sum = cc;
          codes = λ x le less. cc;
        }

    -- no place
    pub listed-start : (first : ℕ) (tables : List ℕ) → ((y : ℕ) → y < q ^ m → slice_index tables (first + y) ≡ 0)
        → IsListed q m rows words i d at count 0 first tables []
    listed-start first tables clear =
        record {
          each = λ x low. absurd (omega arith);
          rising = λ x y less low. absurd (omega arith);
          below = λ x y low le less. absurd (omega arith);
          all = λ x low. absurd (omega arith);
          seen = λ y p low e. (let z = clear y low in absurd (omega arith));
        }

    -- a place that one of the list stands for
    pub listed-skip : (j first y0 : ℕ) (tables other list : List ℕ) → j < count → y0 < q ^ m
        → sum_to q m rows (vector_at words (at j)) d ≡ y0
        → IsKnown words d i (slice_index tables (first + y0)) (at j)
        → ((y : ℕ) → y < q ^ m → slice_index other (first + y) ≡ slice_index tables (first + y))
        → IsListed q m rows words i d at count j first tables list
        → IsListed q m rows words i d at count (j + 1) first other list
    listed-skip j first y0 tables other list there low0 total known same h =
        record {
          each = h.each;
          rising = h.rising;
          below = λ x y low le less. h.below x y low (omega arith) less;
          all = λ x low.
              elim (cases_eq x j) [
                | inl last ↦
                    let s = h.seen y0 known.place low0 known.one_more in
                    let under = h.below s.0 j s.1 (let le : j ≤ j = omega arith in le) there in
                    rw last (record {
                      index = s.0;
                      low = s.1;
                      before = omega arith;
                      alike =
                          alike-across _ known.place _
                          (alike-same _ known.place s.2)
                          (record { sum = cc; codes = known.codes });
                    })
                | inr apart ↦ h.all x (omega arith)
              ];
          seen = λ y p low e. h.seen y p low (sym (same y low) ∙ e);
        }

    -- a place that is added
    pub listed-add : (j first y0 : ℕ) (tables other list : List ℕ) → StandFor q m rows words i d at count → j < count
        → y0 < q ^ m
        → sum_to q m rows (vector_at words (at j)) d ≡ y0
        → slice_index other (first + y0) ≡ at j + 1
        → ((x : ℕ) → x ≢ first + y0 → slice_index other x ≡ slice_index tables x)
        → IsListed q m rows words i d at count j first tables list
        → IsListed q m rows words i d at count (j + 1) first other (list ++ at j ∷ [])
    listed-add j first y0 tables other list stand there low0 total here others h =
        record {
          each = λ x low.
              elim (cases_lt x (length list)) [
                | inl less ↦ rw (front x less) (h.each x less)
                | inr le ↦
                    rw (back x (end x low le)) (stand.each j there)
              ];
          rising = λ x y less low.
              elim (cases_lt y (length list)) [
                | inl before ↦
                    let up = h.rising x y less before in
                    let fx = front x (omega arith) in
                    let fy = front y before in
                    omega arith
                | inr le ↦
                    let last = end y low le in
                    let up = h.below x j (omega arith) (let le : j ≤ j = omega arith in le) there in
                    let fx = front x (omega arith) in
                    let fy = back y last in
                    omega arith
              ];
          below = λ x y low le less.
              elim (cases_lt x (length list)) [
                | inl before ↦
                    let up = h.below x y before (omega arith) less in
                    let fx = front x before in
                    omega arith
                | inr far ↦
                    let up = stand.rising j y (omega arith) less in
                    let fx = back x (end x low far) in
                    omega arith
              ];
          all = λ x low.
              elim (cases_eq x j) [
                | inl last ↦
                    rw last (let fx = back (length list) refl in
                    record {
                      index = (length list);
                      low = omega (arith, size);
                      before = omega arith;
                      alike = alike-same _ _ fx;
                    })
                | inr apart ↦
                    let s = h.all x (omega arith) in
                    let fx = front s.index s.low in
                    let le = s.before in
                    let in_it = s.low in
                    record {
                      index = s.index;
                      low = omega (arith, size);
                      before = omega arith;
                      alike =
                          alike-across _ _ _
                          (alike-same _ _ fx) s.alike;
                    }
              ];
          seen = λ y p low e.
              elim (cases_eq y y0) [
                | inl same ↦
                    let now : slice_index other (first + y0) ≡ suc p =
                    cc in
                    let is : at j ≡ p = omega arith in (
                      (length list),
                      (omega (arith, size)),
                      cc (back (length list) refl),
                      cc,
                    )
                | inr apart ↦
                    let s = h.seen y p low (sym (others (first + y) (λ e. apart (omega arith))) ∙ e) in
                    let in_it = s.1 in
                    (s.0, (omega (arith, size)), cc (front s.0 s.1), s.3)
              ];
        }
      where
        size : length (list ++ at j ∷ []) ≡ (length list) + 1
        size = length-append list (at j ∷ [])

        front : (x : ℕ) → x < (length list) → slice_index (list ++ at j ∷ []) x ≡ slice_index list x
        front x low = get_or_append_left list (at j ∷ []) 0 x low

        end : (x : ℕ) → x < length (list ++ at j ∷ []) → (length list) ≤ x → x ≡ (length list)
        end x low le = let s = size in omega arith

        back : (x : ℕ) → x ≡ (length list) → slice_index (list ++ at j ∷ []) x ≡ at j
        back x e = cc (get_or-append_seam list (at j) [] 0)

    -- all places
    pub listed-end : (first : ℕ) (tables list : List ℕ) → StandFor q m rows words i d at count
        → IsListed q m rows words i d at count count first tables list
        → StandFor q m rows words i d (slice_index list) (length list)
    listed-end first tables list stand h =
        record {
          each = h.each;
          rising = h.rising;
          all = λ k has.
              (let s = stand.all k has in
              let t = h.all s.index s.low in
              let le = s.before in
              let less = t.before in
              record {
                index = t.index;
                low = t.low;
                before = omega arith;
                alike = alike-across _ _ k t.alike s.alike;
              });
        }

    -- what the table has is no greater than the list is long
    pub listed-known : (j first y : ℕ) (tables list : List ℕ) → y < q ^ m
        → IsListed q m rows words i d at count j first tables list
        → slice_index tables (first + y) ≤ length words
    listed-known j first y tables list low h =
        let v = slice_index tables (first + y) in
        elim (cases_eq v 0) [
          | inl none ↦ (omega arith)
          | inr some ↦
              let s = h.seen y (v - 1) low (omega arith) in
              let there = (h.each s.0 s.1).there in
              let is = s.2 in
              omega arith
        ]
