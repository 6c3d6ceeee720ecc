-- The named orders compare all words once.
use Rattle.std.proofs.Common.{ℕ, ◌≡◌, ◌<◌, ◌≤◌, ◌+◌, ◌-◌, ◌*◌, zero, suc, Bool, true, false, cond, eqb, List, []}
use Rattle.std.proofs.Common.{◌∷◌, ◌++◌, map, refl, sym, ◌∙◌, ap, arith, inl, inr, ◌⊎◌, eqb-true, eq-eqb}
use Rattle.std.specs.Prelude.{flat_map, count_by}
use Rattle.std.specs.List.{sum_by, range_with_len}
use Rattle.std.proofs.lemmas.Bool.{cases_Bool, cases_eq, cond-true, cond-false, ne_eqb, and_parts, leb-true}
use Rattle.std.proofs.lemmas.List.Sums.{sum_by-cons, sum_by-append}
use Rattle.fx_laws.proofs.Sums.{sum_by_flat_map, sum_by_map, sum_by-zero}
use Rattle.fx_strata.specs.Designs.{Strata, Part, Words, Unclear}
use Rattle.fx_strata.specs.Orders.{is_compared, compared, weights, are_words, ComparesOnce, CompareOnce, factors_first}
use Rattle.fx_strata.specs.Orders.{cheng_wu_first, cheng_wu_second, sitter_chen_feder, most_clear}

abbrev bit : Bool → ℕ
bit b = cond b 1 0

same : (a b : ℕ) → a ≡ b → bit (eqb a b) ≡ 1
same a b e = cond-true _ 1 0 (eq-eqb a b e)

other : (a b : ℕ) → (a ≡ b → ⊥) → bit (eqb a b) ≡ 0
other a b ne = cond-false _ 1 0 (ne_eqb a b ne)

-- an entry that is the words of this kind and weight
is-words : (b : Bool) (k : ℕ) (part : Part) → are_words b k part ≡ true → part ≡ Words b k
is-words b k Unclear h = cc h
is-words true k (Words true j) h = cc (eqb-true j k h)
is-words true k (Words false j) h = cc h
is-words false k (Words true j) h = cc h
is-words false k (Words false j) h = cc (eqb-true j k h)

-- of entries those that are compared
module _ (x : Strata) (b : Bool) (k : ℕ) where
  abbrev often : List Part → ℕ
  often parts = count_by (are_words b k) parts

  abbrev counts : Bool
  counts = is_compared x (Words b k)

  often-first : (part : Part) (parts : List Part) → often (part ∷ parts) ≡ bit (are_words b k part) + often parts
  often-first part parts = sum_by-cons (λ p. bit (are_words b k p)) part parts

  those-compared : (parts : List Part) → often (compared x parts) ≡ cond counts (often parts) 0
  those-compared [] = elim (cases_Bool counts) [
    | inl t ↦ sym (cond-true counts (often []) 0 t)
    | inr o ↦ sym (cond-false counts (often []) 0 o)
  ]
  those-compared (part ∷ parts) =
      let kept = compared x parts in
      let rest : often kept ≡ cond counts (often parts) 0 = those-compared parts in
      let all = often-first part parts in
      let more = often-first part kept in
      elim (cases_Bool (are_words b k part)) [
        | inl t ↦
            let one : bit (are_words b k part) ≡ 1 = cond-true (are_words b k part) 1 0 t in
            let is : is_compared x part ≡ counts = ap (is_compared x) (is-words b k part t) in
            elim (cases_Bool counts) [
              | inl c ↦
                  let left =
                  ap often (cond-true (is_compared x part) (part ∷ kept) kept (is ∙ c)) in
                  let few = cond-true counts (often parts) 0 c in
                  let many =
                  cond-true counts (often (part ∷ parts)) 0 c in
                  omega arith
              | inr c ↦
                  cc (
                    cond-false (is_compared x part) (part ∷ kept) kept (is ∙ c),
                    rest,
                    cond-false counts (often parts) 0 c,
                    cond-false counts (often (part ∷ parts)) 0 c,
                  )
            ]
        | inr o ↦
            let none : bit (are_words b k part) ≡ 0 = cond-false (are_words b k part) 1 0 o in
            let same-rest : often (part ∷ parts) ≡ often parts = omega arith in
            let without : often (part ∷ kept) ≡ often kept = omega arith in
            let right : cond {A = ℕ} counts (often parts) 0 ≡ cond counts (often (part ∷ parts)) 0 =
            cc same-rest in
            elim (cases_Bool (is_compared x part)) [
              | inl c ↦ cc (cond-true _ (part ∷ kept) kept c, without, rest, right)
              | inr c ↦ cc (cond-false _ (part ∷ kept) kept c, rest, right)
            ]
      ]

  -- so it is enough that they come once among all
  once-among : (parts : List Part) → (counts ≡ true → often parts ≡ 1)
      → often (compared x parts) ≡ cond counts 1 0
  once-among parts one = those-compared parts ∙ elim (cases_Bool counts) [
    | inl t ↦ cc (one t)
    | inr o ↦ cond-false counts (often parts) 0 o ∙ sym (cond-false counts 1 0 o)
  ]

-- what is 1 at one place and else 0
module _ (g : ℕ → ℕ) (i : ℕ) (is : (k : ℕ) → 0 < k → g k ≡ bit (eqb k i)) where
  none-past : (a n : ℕ) → 0 < a → i < a → sum_by g (range_with_len a n) ≡ 0
  none-past a zero some past = refl
  none-past a (suc n) some past =
      let first = sum_by-cons g a (range_with_len (a + 1) n) in
      let rest = none-past (a + 1) n (omega arith) (omega arith) in
      let here = is a some in
      omega (arith, other a i (λ e. omega arith))

  one-there : (a n : ℕ) → 0 < a → a ≤ i → i < a + n → sum_by g (range_with_len a n) ≡ 1
  one-there a zero some low high = absurd (omega arith)
  one-there a (suc n) some low high =
      let first = sum_by-cons g a (range_with_len (a + 1) n) in
      let here = is a some in
      elim (cases_eq a i) [
        | inl e ↦
            let one = same a i e in
            omega (arith, none-past (a + 1) n (omega arith) (omega arith))
        | inr ne ↦
            let none = other a i ne in
            omega (arith, one-there (a + 1) n (omega arith) (omega arith) (omega arith))
      ]

-- one place of an entry, or one of two
one-of-one : (a k j i : ℕ) → (j ≡ i → a ≡ k) → (a ≡ k → j ≡ i) → bit (eqb a k) ≡ bit (eqb j i)
one-of-one a k j i there back = elim (cases_eq j i) [
  | inl e ↦ cc (same a k (there e), same j i e)
  | inr ne ↦ cc (other a k (λ e. ne (back e)), other j i ne)
]

one-of-two : (a b k j i : ℕ) → (j ≡ i → ((a ≡ k) × (b ≡ k → ⊥)) ⊎ ((a ≡ k → ⊥) × (b ≡ k)))
    → ((a ≡ k) ⊎ (b ≡ k) → j ≡ i) → bit (eqb a k) + bit (eqb b k) ≡ bit (eqb j i)
one-of-two a b k j i there back = elim (cases_eq j i) [
  | inl e ↦
      let one = same j i e in
      elim (there e) [
        | inl p ↦
            omega (arith, same a k p.0, other b k p.1)
        | inr p ↦
            omega (arith, other a k p.0, same b k p.1)
      ]
  | inr ne ↦
      let no = other a k (λ e. ne (back (inl e))) in
      omega (arith, other j i ne, other b k (λ e. ne (back (inr e))))
]

halves : (k : ℕ) → (i : ℕ) × ((k ≡ 2 * i) ⊎ (k ≡ 2 * i + 1))
halves zero = (0, inl refl)
halves (suc k) =
    let h = halves k in
    elim (h.1) [
      | inl e ↦ (h.0, inr (omega arith))
      | inr e ↦ (h.0 + 1, inl (omega arith))
    ]

module _ (x : Strata) where
  abbrev size : ℕ
  size = x.w + x.n

  constant-range : (k : ℕ) → is_compared x (Words false k) ≡ true → (3 ≤ k) × (k ≤ size)
  constant-range k h =
      let p = and_parts _ _ h in
      (leb-true 3 k p.0, leb-true k size p.1)

  confounded-range : (k : ℕ) → is_compared x (Words true k) ≡ true → (2 ≤ k) × (k ≤ size)
  confounded-range k h =
      let p' = and_parts _ _ (and_parts _ _ h).1 in
      (leb-true 2 k p'.0, leb-true k size p'.1)

  module _ (b : Bool) (k : ℕ) where
    -- over all weights, by the entries of each
    by-weight : (g : ℕ → List Part) → often x b k (flat_map g (weights x)) ≡ sum_by (λ j. often x b k (g j)) (weights x)
    by-weight g = sum_by_flat_map (λ p. bit (are_words b k p)) g _

    of-map : (h : ℕ → Part) → often x b k (map h (weights x)) ≡ sum_by (λ j. bit (are_words b k (h j))) (weights x)
    of-map h = sum_by_map (λ p. bit (are_words b k p)) h (weights x)

    of-both : (xs ys : List Part) → often x b k (xs ++ ys) ≡ often x b k xs + often x b k ys
    of-both xs ys = sum_by-append (λ p. bit (are_words b k p)) xs ys

    of-two : (p p' : Part) → often x b k (p ∷ p' ∷ []) ≡ bit (are_words b k p) + bit (are_words b k p')
    of-two p p' =
        omega (arith, often-first x b k p (p' ∷ []), often-first x b k p' [])

    of-three : (p p' p'' : Part) → often x b k (p ∷ p' ∷ p'' ∷ [])
        ≡ bit (are_words b k p) + (bit (are_words b k p') + bit (are_words b k p''))
    of-three p p' p'' =
        omega (arith, often-first x b k p (p' ∷ p'' ∷ []), of-two p' p'')

  constant-once : (k : ℕ) → 0 < k → k ≤ size → often x false k (map (Words false) (weights x)) ≡ 1
  constant-once k some low =
      of-map false k (Words false)
      ∙ one-there (λ j. bit (eqb j k)) k (λ j pos. refl) 1 size (omega arith) (omega arith) (omega arith)

  confounded-once : (k : ℕ) → 0 < k → k ≤ size → often x true k (map (Words true) (weights x)) ≡ 1
  confounded-once k some low =
      of-map true k (Words true)
      ∙ one-there (λ j. bit (eqb j k)) k (λ j pos. refl) 1 size (omega arith) (omega arith) (omega arith)

  no-constant : (k : ℕ) (h : ℕ → ℕ) → often x true k (map (λ j. Words false (h j)) (weights x)) ≡ 0
  no-constant k h = of-map true k (λ j. Words false (h j)) ∙ sum_by-zero (weights x)

  no-confounded : (k : ℕ) → often x false k (map (Words true) (weights x)) ≡ 0
  no-confounded k = of-map false k (Words true) ∙ sum_by-zero (weights x)

  by_factors : ComparesOnce x (factors_first x)
  by_factors b k = once-among x b k (map (Words false) (weights x) ++ map (Words true) (weights x)) (one b k)
    where
      one : (b : Bool) (k : ℕ) → is_compared x (Words b k) ≡ true
          → often x b k (map (Words false) (weights x) ++ map (Words true) (weights x)) ≡ 1
      one false k c =
          let r = constant-range k c in
          let e = of-both false k (map (Words false) (weights x)) (map (Words true) (weights x)) in
          omega (arith, constant-once k (let l = r.0 in omega arith) r.1, no-confounded k)
      one true k c =
          let r = confounded-range k c in
          let e = of-both true k (map (Words false) (weights x)) (map (Words true) (weights x)) in
          omega (arith, confounded-once k (let l = r.0 in omega arith) r.1, no-constant k (λ j. j))

  -- entries by weight, of which each has the words of kind b and weight k where its weight is i
  among-weights : (b : Bool) (k i : ℕ) (g : ℕ → List Part) → ((j : ℕ) → 0 < j → often x b k (g j) ≡ bit (eqb j i))
      → 0 < i → i ≤ size → often x b k (flat_map g (weights x)) ≡ 1
  among-weights b k i g is some low =
      by-weight b k g ∙ one-there (λ j. often x b k (g j)) i is 1 size (omega arith) (omega arith) (omega arith)

  abbrev three-at : (ℕ → ℕ) → (ℕ → ℕ) → ℕ → List Part
  three-at f g j = Words false (f j) ∷ Words false (g j) ∷ Words true j ∷ []

  -- of two constant words and the confounded ones at each weight
  confounded-of-three : (f g : ℕ → ℕ) (k : ℕ) → is_compared x (Words true k) ≡ true
      → often x true k (flat_map (three-at f g) (weights x)) ≡ 1
  confounded-of-three f g k c =
      let r = confounded-range k c in
      among-weights true k k (three-at f g)
      (λ j pos.
      let e =
      of-three true k (Words false (f j)) (Words false (g j)) (Words true j) in
      omega arith)
      (let l = r.0 in omega arith) r.1

  constant-of-three : (f g : ℕ → ℕ) (k i : ℕ)
      → ((j : ℕ) → 0 < j → bit (eqb (f j) k) + bit (eqb (g j) k) ≡ bit (eqb j i)) → 0 < i → i ≤ size
      → often x false k (flat_map (three-at f g) (weights x)) ≡ 1
  constant-of-three f g k i is some low =
      among-weights false k i (three-at f g)
      (λ j pos.
      let e =
      of-three false k (Words false (f j)) (Words false (g j)) (Words true j) in
      let e' = is j pos in
      omega arith)
      some low

  first : ComparesOnce x (cheng_wu_first x)
  first b k = once-among x b k (flat_map (three-at (λ j. 2 * j - 1) (λ j. 2 * j)) (weights x)) (one b k)
    where
      one : (b : Bool) (k : ℕ) → is_compared x (Words b k) ≡ true
          → often x b k (flat_map (three-at (λ j. 2 * j - 1) (λ j. 2 * j)) (weights x)) ≡ 1
      one true k c = confounded-of-three (λ j. 2 * j - 1) (λ j. 2 * j) k c
      one false k c =
          let r = constant-range k c in
          let l = r.0 in
          let u = r.1 in
          let h = halves k in
          elim (h.1) [
            | inl e ↦ constant-of-three (λ j. 2 * j - 1) (λ j. 2 * j) k h.0
                (λ j pos. one-of-two _ _ k j h.0
                (λ z. inr ((λ y. omega arith), omega arith))
                (λ y. elim y [ inl y' ↦ absurd (omega arith) | inr y' ↦ omega arith ]))
                (omega arith) (omega arith)
            | inr e ↦ constant-of-three (λ j. 2 * j - 1) (λ j. 2 * j) k (h.0 + 1)
                (λ j pos. one-of-two _ _ k j _
                (λ z. inl (omega arith, (λ y. omega arith)))
                (λ y. elim y [ inl y' ↦ omega arith | inr y' ↦ absurd (omega arith) ]))
                (omega arith) (omega arith)
          ]

  second : ComparesOnce x (cheng_wu_second x)
  second b k = once-among x b k (flat_map (three-at (λ j. 2 * j - 2) (λ j. 2 * j - 1)) (weights x)) (one b k)
    where
      one : (b : Bool) (k : ℕ) → is_compared x (Words b k) ≡ true
          → often x b k (flat_map (three-at (λ j. 2 * j - 2) (λ j. 2 * j - 1)) (weights x)) ≡ 1
      one true k c = confounded-of-three (λ j. 2 * j - 2) (λ j. 2 * j - 1) k c
      one false k c =
          let r = constant-range k c in
          let l = r.0 in
          let u = r.1 in
          let h = halves k in
          constant-of-three (λ j. 2 * j - 2) (λ j. 2 * j - 1) k (h.0 + 1)
          (λ j pos. elim (h.1) [
            | inl e ↦ one-of-two _ _ k j _
                (λ z. inl (omega arith, (λ y. omega arith)))
                (λ y. elim y [ inl y' ↦ omega arith | inr y' ↦ absurd (omega arith) ])
            | inr e ↦ one-of-two _ _ k j _
                (λ z. inr ((λ y. omega arith), omega arith))
                (λ y. elim y [ inl y' ↦ absurd (omega arith) | inr y' ↦ omega arith ])
          ])
          (omega arith) (elim (h.1) [ inl e ↦ omega arith | inr e ↦ omega arith ])

  in_turn : ComparesOnce x (sitter_chen_feder x)
  in_turn b k = once-among x b k (flat_map (λ j. Words false (j + 1) ∷ Words true j ∷ []) (weights x)) (one b k)
    where
      one : (b : Bool) (k : ℕ) → is_compared x (Words b k) ≡ true
          → often x b k (flat_map (λ j. Words false (j + 1) ∷ Words true j ∷ []) (weights x)) ≡ 1
      one true k c =
          let r = confounded-range k c in
          among-weights true k k (λ j. Words false (j + 1) ∷ Words true j ∷ [])
          (λ j pos.
          omega (arith, of-two true k (Words false (j + 1)) (Words true j)))
          (let l = r.0 in omega arith) r.1
      one false k c =
          let r = constant-range k c in
          let l = r.0 in
          let u = r.1 in
          among-weights false k (k - 1) (λ j. Words false (j + 1) ∷ Words true j ∷ [])
          (λ j pos.
          let e =
          of-two false k (Words false (j + 1)) (Words true j) in
          omega (arith, one-of-one (j + 1) k j (k - 1) (λ z. omega arith) (λ z. omega arith)))
          (omega arith) (omega arith)

  abbrev after-clear : List Part
  after-clear = (map (λ j. Words false (3 + j)) (weights x) ++ map (Words true) (weights x))

  by_clear : ComparesOnce x (most_clear x)
  by_clear b k = once-among x b k (Words false 3 ∷ Unclear ∷ after-clear) (one b k)
    where
      parted : (b : Bool) (k : ℕ) → often x b k (Words false 3 ∷ Unclear ∷ after-clear)
          ≡ bit (are_words b k (Words false 3))
          + (often x b k (map (λ j. Words false (3 + j)) (weights x)) + often x b k (map (Words true) (weights x)))
      parted b k =
          omega (
            arith,
            often-first x b k (Words false 3) (Unclear ∷ after-clear),
            often-first x b k Unclear
                after-clear,
            of-both b k (map (λ j. Words false (3 + j)) (weights x)) (map (Words true) (weights x)),
          )

      behind : (k i : ℕ) → k ≡ 3 + i → often x false k (map (λ j. Words false (3 + j)) (weights x))
          ≡ sum_by (λ j. bit (eqb (3 + j) k)) (weights x)
      behind k i e = of-map false k (λ j. Words false (3 + j))

      moved : (k i j : ℕ) → k ≡ 3 + i → bit (eqb (3 + j) k) ≡ bit (eqb j i)
      moved k i j e = one-of-one _ k j i (λ z. omega arith) (λ z. omega arith)

      one : (b : Bool) (k : ℕ) → is_compared x (Words b k) ≡ true
          → often x b k (Words false 3 ∷ Unclear ∷ after-clear) ≡ 1
      one true k c =
          let r = confounded-range k c in
          let e = parted true k in
          let no = no-constant k (λ j. 3 + j) in
          omega (arith, confounded-once k (let l = r.0 in omega arith) r.1)
      one false k c =
          let r = constant-range k c in
          let l = r.0 in
          let u = r.1 in
          let i = k - 3 in
          let is : k ≡ 3 + i = omega arith in
          let e = parted false k in
          let no = no-confounded k in
          let sum = behind k i is in
          elim (cases_eq 3 k) [
            | inl three ↦
                let yes = same 3 k three in
                omega (
                  arith,
                  none-past (λ j. bit (eqb (3 + j) k)) i (λ j pos. moved k i j is) 1 size (omega arith)
                      (omega arith),
                )
            | inr more ↦
                let none = other 3 k more in
                omega (
                  arith,
                  one-there (λ j. bit (eqb (3 + j) k)) i (λ j pos. moved k i j is) 1 size (omega arith)
                      (omega arith) (omega arith),
                )
          ]

  pub compare_once : CompareOnce x
  compare_once = record {
    by_factors = by_factors;
    first = first;
    second = second;
    in_turn = in_turn;
    by_clear = by_clear;
  }
