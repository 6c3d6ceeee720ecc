-- No design below a prefix is worth less than its floor.
use Rattle.std.proofs.Common.{ℕ, ◌≡◌, ◌<◌, ◌≤◌, ◌+◌, ◌-◌, ◌*◌, zero, suc, Bool, true, false, not, cond, eqb, ◌&&◌}
use Rattle.std.proofs.Common.{eqb-true, List, [], ◌∷◌, ◌++◌, map, length, take, refl, sym, ◌∙◌, ap, ap₂, arith}
use Rattle.std.proofs.Common.{inl, inr, Some, min, append_assoc, length-append, le_trans, drop, take-append-drop}
use Rattle.std.proofs.Common.{append-nil}
use Rattle.std.proofs.lemmas.Bool.{both_ways, false_from_ne_true, and_from, ltb-true, cases_Bool, cases_eq, cases_lt}
use Rattle.std.proofs.lemmas.Bool.{cond-true, cond-false, and_parts, or_cases, not-true, le-ltb, or_from, and_right}
use Rattle.std.proofs.lemmas.Bool.{lt-ltb}
use Rattle.std.specs.List.{filter, sum_by, AllByRecursion}
use Rattle.std.proofs.lemmas.List.{map-append, length-map, take-append-le, take_all}
use Rattle.std.proofs.lemmas.List.Sums.{sum_by-cons}
use Rattle.std.proofs.Math.Nat.{mul-le-mul_left}
use Rattle.std.specs.Prelude.{nat_lt, nat_le, count_by}
use Rattle.std.proofs.lemmas.Bool.Decides.{nat_tests}
use Rattle.fx_designs.specs.Galois.{IsField, digits}
use Rattle.fx_designs.specs.Vectors.{is_zero, vectors_of}
use Rattle.fx_designs.specs.Problems.{Dimensions}
use Rattle.fx_designs.specs.Patterns.{is_less}
use Rattle.fx_designs.specs.Answers.{falling}
use Rattle.fx_laws.proofs.Sums.{sum_by-ext, sum_by-zero, sum_by_map}
use Rattle.fx_laws.proofs.CanonicalTest.{rows-vectors, take-vectors}
use Rattle.fx_reduction.proofs.PatternOrder.{not_above}
use Rattle.fx_strata.specs.Designs.{Strata, Part, Words, Unclear, Order, part_of, key_of, Figures}
use Rattle.fx_strata.specs.Words.{words_in}
use Rattle.fx_strata.specs.Sums.{is_in_base}
use Rattle.fx_strata.specs.Canonical.{dimensions_of, base, words, unclear, figures, is_later, AreLater, IsLaid}
use Rattle.fx_strata.specs.Canonical.{IsDesign}
use Rattle.fx_strata.specs.Clear.{is_live, pairs}
use Rattle.fx_strata.specs.Stages.{stage_after, has_units, bound, later_rows, missing}
use Rattle.fx_strata.specs.Floors.{least_sum, new_words, is_spare, taking, unclear_floor, needs_none, floor_at}
use Rattle.fx_strata.specs.Floors.{does_not_beat, cannot_beat}
use Rattle.fx_strata.specs.Laws.{NoneWithoutRoom, NoneBelow}
use Rattle.fx_strata.proofs.Totals.{total, total-turned, total-more, added, counted}
use Rattle.fx_strata.proofs.Free.{IsFree, each-none}
use Rattle.fx_strata.proofs.Rests.{fits}
use Rattle.fx_strata.proofs.Follows.{rest, no_room}
use Rattle.fx_strata.proofs.Clearer.{unclear-more}
use Rattle.fx_strata.proofs.Live.{not-clear}
use Rattle.fx_strata.proofs.First.{others-live}

-- one of the numbers, and the least sum of the others
pub least-with : (k x : ℕ) (xs : List ℕ) → least_sum (suc k) (x ∷ xs) ≤ x + least_sum k xs
least-with k x xs = elim (cases_Bool (nat_le (length xs) k)) [
  | inl t ↦ rw (cond-true _ (x + least_sum k xs) (min (x + least_sum k xs) (least_sum (suc k) xs))
      t) (omega arith)
  | inr o ↦ rw (cond-false _ (x + least_sum k xs) (min (x + least_sum k xs) (least_sum (suc k) xs))
      o) (omega arith)
]

-- without it, where there are enough others
pub least-without : (k x : ℕ) (xs : List ℕ) → suc k ≤ length xs → least_sum (suc k) (x ∷ xs) ≤ least_sum (suc k) xs
least-without k x xs h = elim (cases_Bool (nat_le (length xs) k)) [
  | inl t ↦ absurd (let low : length xs ≤ k = grind (arith, nat_tests, t) in omega arith)
  | inr o ↦ rw (cond-false _ (x + least_sum k xs) (min (x + least_sum k xs) (least_sum (suc k) xs))
      o) (omega arith)
]

-- rows that come have at least the least sum of all that can come
come-sum : (d : Dimensions) (from : ℕ) (g : ℕ → ℕ) (n : ℕ) (xs : List ℕ) → AreLater d from n xs
    → least_sum (length xs) (map g (filter (λ r. is_later d from r) (falling n))) ≤ sum_by g xs
come-sum d from g n [] h = omega arith
come-sum d from g zero (x ∷ xs) h = absurd (let e = h.1 in omega arith)
come-sum d from g (suc n) (x ∷ xs) h =
    let rest = filter (λ r. is_later d from r) (falling n) in
    let k = length xs in
    let sum = sum_by-cons g x xs in
    elim (cases_eq x n) [
      | inl e ↦
          let on : is_later d from n ≡ true = rw e at h.0 in
          let less =
          come-sum d from g n xs (rw e at h.2) in
          let with =
          least-with k (g n) (map g rest) in
          let same = ap g e in
          rw (cond-true (is_later d from n) (n ∷ rest) rest on) (omega arith)
      | inr ne ↦
          let low : x < n = (let e = h.1 in omega arith) in
          let less =
          come-sum d from g n (x ∷ xs) (h.0, low, h.2) in
          elim (cases_Bool (is_later d from n)) [
            | inl t ↦
                let many = fits d from n (x ∷ xs) (h.0, low, h.2) in
                let out =
                least-without k (g n) (map g rest) (let e = length-map rest g in omega arith) in
                rw (cond-true (is_later d from n) (n ∷ rest) rest t) (omega arith)
            | inr o ↦ rw (cond-false (is_later d from n) (n ∷ rest) rest o) less
          ]
    ]

-- of rows that come no more pass a test than of all that can come
come-count : (d : Dimensions) (from : ℕ) (p : ℕ → Bool) (n : ℕ) (xs : List ℕ) → AreLater d from n xs
    → count_by p xs ≤ count_by p (filter (λ r. is_later d from r) (falling n))
come-count d from p n [] h = omega arith
come-count d from p zero (x ∷ xs) h = absurd (let e = h.1 in omega arith)
come-count d from p (suc n) (x ∷ xs) h =
    let rest = filter (λ r. is_later d from r) (falling n) in
    let head = sum_by-cons (λ r. cond (p r) 1 0) n rest in
    let first = sum_by-cons (λ r. cond (p r) 1 0) x xs in
    elim (cases_eq x n) [
      | inl e ↦
          let on : is_later d from n ≡ true = rw e at h.0 in
          let less =
          come-count d from p n xs (rw e at h.2) in
          let same : cond {A = ℕ} (p x) 1 0 ≡ cond (p n) 1 0 = cc in
          rw (cond-true (is_later d from n) (n ∷ rest) rest on) (omega arith)
      | inr ne ↦
          let low : x < n = (let e = h.1 in omega arith) in
          let less = come-count d from p n (x ∷ xs) (h.0, low, h.2) in
          elim (cases_Bool (is_later d from n)) [
            | inl t ↦ rw (cond-true (is_later d from n) (n ∷ rest) rest t) (omega arith)
            | inr o ↦ rw (cond-false (is_later d from n) (n ∷ rest) rest o) less
          ]
    ]

-- each passes one of two tests
covered : (p r : ℕ → Bool) (xs : List ℕ) → AllByRecursion (λ x. p x ≡ false → r x ≡ true) xs
    → length xs ≤ sum_by (λ x. cond {A = ℕ} (p x) 1 0) xs + count_by r xs
covered p r [] h = omega arith
covered p r (x ∷ xs) h =
    let e = sum_by-cons (λ x. cond {A = ℕ} (p x) 1 0) x xs in
    let e' = sum_by-cons (λ x. cond {A = ℕ} (r x) 1 0) x xs in
    let more = covered p r xs h.1 in
    elim (cases_Bool (p x)) [
      | inl t ↦ let one : cond {A = ℕ} (p x) 1 0 ≡ 1 = cond-true (p x) 1 0 t in omega arith
      | inr o ↦ let one : cond {A = ℕ} (r x) 1 0 ≡ 1 = cond-true (r x) 1 0 (h.0 o) in omega arith
    ]

-- where a less key has no constant words of three factors
no-threes : (order : Order) (key : List ℕ) (a : Figures) → needs_none order key ≡ true
    → is_less (key_of order a) key ≡ true → a.words false 3 ≡ 0
no-threes [] key a h less = cc h
no-threes (Unclear ∷ order) key a h less = cc h
no-threes (Words kind k ∷ order) [] a h less = cc h
no-threes (Words kind k ∷ order) (count ∷ key) a h less =
    let p = and_parts (not kind) (eqb k 3 && eqb count 0) h in
    let p1 = and_parts (eqb k 3) (eqb count 0) p.1 in
    let constant = not-true kind p.0 in
    let three = eqb-true k 3 p1.0 in
    let none = eqb-true count 0 p1.1 in
    let n = a.words kind k in
    let zero_words : n ≡ 0 = elim (or_cases (nat_lt n count) (eqb n count && is_less (key_of order a) key) less) [
      | inl l ↦ absurd (let l' = ltb-true n count l in omega arith)
      | inr l ↦ eqb-true n count (and_parts (eqb n count) (is_less (key_of order a) key) l).0 ∙ none
    ] in
    cc three

-- a list that is nowhere greater is not greater
pub not_less : {X : Type 0} (g h : X → ℕ) (ts : List X) → ((t : X) → g t ≤ h t) → is_less (map h ts) (map g ts) ≡ false
not_less g h [] few = refl
not_less g h (t ∷ ts) few = or_from _ _ (le-ltb _ _ (few t)) (and_right _ _ (not_less g h ts few))

module _ (x : Strata) (f : IsField x.q) where
  -- all words of some rows whose sum passes a test
  count : (List ℕ → Bool) → ℕ → List ℕ → ℕ
  count test k rows = words_in x.q x.m test (vectors_of x.q x.m rows) k

  module _ (test : List ℕ → Bool) (k : ℕ) where
    abbrev g : ℕ → List ℕ → ℕ
    g = counted x.q x.m f test k

    as-total : (rows : List ℕ) → count test k rows ≡ total x.q x.m f g (vectors_of x.q x.m rows)
    unfolding count words_in
    as-total rows = refl

    added-row : (c : List ℕ) (r : ℕ)
        → total x.q x.m f g (digits x.q x.m r ∷ vectors_of x.q x.m c) ≡ count test k (c ++ r ∷ [])
    added-row c r =
        cc (
          total-turned x.q x.m f g (digits x.q x.m r ∷ []) (vectors_of x.q x.m c),
          map-append (digits x.q x.m) c (r ∷ []),
          as-total (c ++ r ∷ []),
        )

    grow : (c xs : List ℕ)
        → count test k c + sum_by (λ r. count test k (c ++ r ∷ []) - count test k c) xs ≤ count test k (c ++ xs)
    grow c xs =
        let vc = vectors_of x.q x.m c in
        let vx = vectors_of x.q x.m xs in
        let more =
        total-more x.q x.m f g vx vc (rows-vectors x.q x.m f xs) (rows-vectors x.q x.m f c) in
        let last : total x.q x.m f g (vx ++ vc) ≡ count test k (c ++ xs) =
        cc (total-turned x.q x.m f g vx vc, map-append (digits x.q x.m) c xs, as-total (c ++ xs)) in
        let each : sum_by (added x.q x.m f g vc) vx ≡ sum_by (λ r. count test k (c ++ r ∷ []) - count test k c) xs =
        sum_by_map (added x.q x.m f g vc) (digits x.q x.m) xs
        ∙ sum_by-ext _ _ xs (λ r. cc (added-row c r, as-total c)) in
        omega (arith, as-total c)

    grows : (c xs : List ℕ) → count test k c ≤ count test k (c ++ xs)
    grows c xs = (omega (arith, grow c xs))

  abbrev T : List ℕ → Bool
  T v = is_in_base x (base x) v

  constant-words : (k : ℕ) (rows : List ℕ) → words x rows false k ≡ count is_zero k rows
  unfolding count
  constant-words k rows = refl

  confounded-words : (k : ℕ) (rows : List ℕ) → words x rows true k ≡ count T k rows - count T k (take x.w rows)
  unfolding count
  confounded-words k rows =
      cc (take-vectors x.q x.m x.w rows)

  none-yet : (k : ℕ) (rows : List ℕ) → length rows ≤ x.w → words x rows true k ≡ 0
  none-yet k rows few =
      confounded-words k rows ∙ ap (λ l. count T k rows - count T k l) (take_all x.w rows few) ∙ (omega arith)

  sum-none : (h : ℕ → ℕ) (xs : List ℕ) → ((r : ℕ) → h r ≡ 0) → sum_by h xs ≡ 0
  sum-none h xs none = sum_by-ext h (λ r. 0) xs none ∙ sum_by-zero xs

  -- what is there, and what each further row adds alone
  words-grow : (b : Bool) (k : ℕ) (c xs : List ℕ)
      → words x c b k + sum_by (λ r. new_words x c r b k) xs ≤ words x (c ++ xs) b k
  words-grow false k c xs =
      let each : sum_by (λ r. new_words x c r false k) xs
      ≡ sum_by (λ r. count is_zero k (c ++ r ∷ []) - count is_zero k c) xs =
      sum_by-ext _ _ xs (λ r. ap₂ (λ a b. a - b) (constant-words k (c ++ r ∷ [])) (constant-words k c)) in
      omega (arith, constant-words k c, constant-words k (c ++ xs), grow is_zero k c xs)
  words-grow true k c xs = elim (cases_lt (length c) x.w) [
    | inl low ↦
        let none = none-yet k c (omega arith) in
        omega (
          arith,
          sum-none (λ r. new_words x c r true k) xs
              (λ r. omega (arith, none-yet k (c ++ r ∷ []) (omega (arith, length-append c (r ∷ []))))),
        )
    | inr high ↦
        let fixed : (ys : List ℕ) → words x (c ++ ys) true k ≡ count T k (c ++ ys) - count T k (take x.w c) =
        λ ys. cc (confounded-words k (c ++ ys), take-append-le x.w c ys high)
        in
        let here = confounded-words k c in
        let part =
        rw (take-append-drop x.w c) at (grows T k (take x.w c) (drop x.w c)) in
        let each : sum_by (λ r. new_words x c r true k) xs ≡ sum_by (λ r. count T k (c ++ r ∷ []) - count T k c) xs =
        sum_by-ext _ _ xs (λ r.
        omega (arith, fixed (r ∷ []), grows T k c (r ∷ []))) in
        omega (arith, grow T k c xs, fixed xs)
  ]

  -- the confounded words that a row makes, after all inside factors
  pub new-confounded : (k : ℕ) (c : List ℕ) (r : ℕ) → x.w ≤ length c
      → new_words x c r true k
      ≡ words_in x.q x.m (is_in_base x (base x)) (vectors_of x.q x.m (c ++ r ∷ [])) k
      - words_in x.q x.m (is_in_base x (base x)) (vectors_of x.q x.m c) k
  unfolding count
  new-confounded k c r high =
      let fixed : words x (c ++ r ∷ []) true k ≡ count T k (c ++ r ∷ []) - count T k (take x.w c) =
      cc (confounded-words k (c ++ r ∷ []), take-append-le x.w c (r ∷ []) high) in
      let part =
      rw (take-append-drop x.w c) at (grows T k (take x.w c) (drop x.w c)) in
      omega (arith, confounded-words k c, grows T k c (r ∷ []))

  pub inside-grows : (k : ℕ) (c : List ℕ) (r : ℕ)
      → words_in x.q x.m (is_in_base x (base x)) (vectors_of x.q x.m c) k
      ≤ words_in x.q x.m (is_in_base x (base x)) (vectors_of x.q x.m (c ++ r ∷ [])) k
  unfolding count
  inside-grows k c r = grows T k c (r ∷ [])

  pub words-more : (b : Bool) (k : ℕ) (c s : List ℕ) → words x c b k ≤ words x (c ++ s) b k
  words-more b k c s = (omega (arith, words-grow b k c s))

  -- with the new words of each further row
  words-grow-by-rows : (b : Bool) (k : ℕ) (c xs s : List ℕ)
      → words x c b k + sum_by (λ r. new_words x c r b k) xs ≤ words x (c ++ (xs ++ s)) b k
  words-grow-by-rows b k c xs s =
      le_trans (words-grow b k c xs)
      (rw (append_assoc c xs s) at (words-more b k (c ++ xs) s))

  module _ (c s : List ℕ) (D : IsDesign x (c ++ s)) where
    laid : IsLaid x (c ++ s)
    laid = D.laid

    free : IsFree x.q x.m f (vectors_of x.q x.m (c ++ s))
    unfolding words_in
    free = record { one = D.none_of_one; two = D.none_of_two }

    -- where no word of three factors is constant, rows that come make none
    makes-none : (none : Bool) → (none ≡ true → words x (c ++ s) false 3 ≡ 0) → (xs behind : List ℕ) → s ≡ xs ++ behind
        → AllByRecursion (λ r. is_live x c (digits x.q x.m r) ≡ false → is_spare x none c r ≡ true) xs
    makes-none none three xs behind is = elim (cases_Bool none) [
      | inr o ↦ unasked xs o
      | inl t ↦
          let all =
          rw is at (three t) in
          let more =
          words-more false 3 (c ++ xs) behind in
          let whole : words x ((c ++ xs) ++ behind) false 3 ≡ words x (c ++ (xs ++ behind)) false 3 =
          cc (append_assoc c xs behind) in
          asked xs (each-none (λ r. new_words x c r false 3) xs (omega (arith, words-grow false 3 c xs)))
    ]
      where
        unasked : (ys : List ℕ) → none ≡ false
            → AllByRecursion (λ r. is_live x c (digits x.q x.m r) ≡ false → is_spare x none c r ≡ true) ys
        unasked [] o = tt
        unasked (r ∷ ys) o = (
          λ dead. and_from _ _ (ap not dead) (cc),
          unasked ys o,
        )

        asked : (ys : List ℕ) → AllByRecursion (λ r. new_words x c r false 3 ≡ 0) ys
            → AllByRecursion (λ r. is_live x c (digits x.q x.m r) ≡ false → is_spare x none c r ≡ true) ys
        asked [] e = tt
        asked (r ∷ ys) e = (
          λ dead. and_from _ _ (ap not dead)
              (cc (e.0, never none)),
          asked ys e.1,
        )
          where
            never : (b : Bool) → not (b && nat_lt 0 0) ≡ true
            never true = refl
            never false = refl

    pub floor-unclear : has_units x c ≡ true → (none : Bool) → (none ≡ true → words x (c ++ s) false 3 ≡ 0)
        → unclear_floor x none c ≤ unclear x (c ++ s)
    floor-unclear there none three =
        let old = unclear-more x f c s in
        let size : pairs x.q (length (c ++ s)) ≡ pairs x.q (x.w + x.n) = cc laid.len in
        let stage = missing x c - count_by (is_spare x none c) (later_rows x c) in
        elim (cases_lt (length c) x.w) [
          | inl low ↦
              let live = sum_by (λ r. cond {A = ℕ} (is_live x c (digits x.q x.m r)) 1 0) s in
              let part =
              not-clear x f laid.base c s s [] (sym (append-nil s)) free in
              let is : taking x none c ≡ x.n =
              cond-true (nat_lt (length c) x.w) x.n stage (lt-ltb (length c) x.w low) in
              let many : x.n ≤ live = others-live x f c s D low in
              let times : (x.q - 1) * taking x none c ≤ (x.q - 1) * live = mul-le-mul_left (x.q - 1) (omega arith) in
              omega arith
          | inr high ↦
              let p = rest x f c s laid there in
              let live = sum_by (λ r. cond {A = ℕ} (is_live x c (digits x.q x.m r)) 1 0) p.rows in
              let part =
              not-clear x f laid.base c s p.rows p.behind p.is free in
              let each =
              covered _ _ p.rows
              (makes-none none three p.rows p.behind p.is) in
              let few : count_by (is_spare x none c) p.rows ≤ count_by (is_spare x none c) (later_rows x c) =
              come-count (dimensions_of x) (stage_after x c).first_unit (is_spare x none c) (bound x c) p.rows
              p.later in
              let len = p.len in
              let is : taking x none c ≡ stage =
              cond-false (nat_lt (length c) x.w) x.n stage (le-ltb (length c) x.w high) in
              let many : taking x none c ≤ live = omega arith in
              omega (arith, mul-le-mul_left (x.q - 1) many)
        ]

    floor-low : has_units x c ≡ true → (none : Bool) → (none ≡ true → words x (c ++ s) false 3 ≡ 0)
        → (part : Part) → floor_at x none c part ≤ part_of (figures x (c ++ s)) part
    floor-low there none three Unclear = floor-unclear there none three
    floor-low there none three (Words b k) =
        let p = rest x f c s laid there in
        let g : ℕ → ℕ = λ r. new_words x c r b k in
        let grown =
        rw (← p.is) at (words-grow-by-rows b k c p.rows p.behind) in
        let least' =
        rw p.len at (come-sum (dimensions_of x) (stage_after x c).first_unit g (bound x c) p.rows p.later) in
        omega arith

    floored : (order : Order) (key : List ℕ) → cannot_beat x order (Some key) c ≡ true
        → is_less (key_of order (figures x (c ++ s))) key ≡ false
    floored order key h = false_from_ne_true _ (λ less.
        let none = needs_none order key in
        let p = and_parts _ _ h in
        both_ways _
        (not_above _ _ key
        (length-map order (part_of (figures x (c ++ s))) ∙ sym (length-map order (floor_at x none c)))
        (not_less (floor_at x none c) (part_of (figures x (c ++ s))) order
        (floor-low p.0 none (λ e. no-threes order key _ e less))) (not-true _ p.1)) less)

  part-grows : (c s : List ℕ) (part : Part) → part_of (figures x c) part ≤ part_of (figures x (c ++ s)) part
  part-grows c s (Words b k) = words-more b k c s
  part-grows c s Unclear = unclear-more x f c s

  -- the key alone
  worse : (order : Order) (c s key : List ℕ) → does_not_beat x order (Some key) c ≡ true
      → is_less (key_of order (figures x (c ++ s))) key ≡ false
  worse order c s key h =
      not_above _ _ key
      (length-map order (part_of (figures x (c ++ s))) ∙ sym (length-map order (part_of (figures x c))))
      (not_less (part_of (figures x c)) (part_of (figures x (c ++ s))) order (part-grows c s)) (not-true _ h)

  pub none_below : (order : Order) → NoneBelow x order
  none_below order c s key h D =
      elim (or_cases _ _ h) [
        | inl w ↦ worse order c s key w
        | inr w ↦ floored c s D order key w
      ]

  pub none_without_room : NoneWithoutRoom x
  none_without_room c s h D = no_room x f c s D.laid h
