-- Rows in falling order: more rows make each place greater, and any order is reached by swaps of neighbours.
use Rattle.std.proofs.Common.{ℕ, ◌≡◌, ◌<◌, ◌≤◌, suc, Bool, true, false, List, [], ◌∷◌, ◌++◌, map, refl, sym}
use Rattle.std.proofs.Common.{subst, ◌∙◌, ap, arith, inl, inr, ◌⊎◌, eq-eqb, eqb-true}
use Rattle.std.specs.Prelude.{nat_lt}
use Rattle.std.specs.List.{AllByRecursion, filter}
use Rattle.std.proofs.lemmas.Bool.{cases_Bool, cases_lt, cond-true, cond-false, or_cases, or_left, or_right, and_parts}
use Rattle.std.proofs.lemmas.Bool.{and_from, ltb-true, lt-ltb, le-ltb, both_ways}
use Rattle.fx_designs.specs.Answers.{before}
use Rattle.fx_designs.specs.Patterns.{is_less}
use Rattle.fx_laws.specs.Reorders.{reordered}
use Rattle.fx_laws.proofs.Reorders.{reordered-inside, reordered-append, reorder_behind}
use Rattle.fx_strata.specs.Changes.{put, falling_order}

-- each place of the second list is at least that of the first, and there is one for each
abbrev pub IsUnder : List ℕ → List ℕ → Type 0
IsUnder [] ys = Unit {0}
IsUnder (x ∷ xs) [] = ⊥
IsUnder (x ∷ xs) (y ∷ ys) = (x ≤ y) × IsUnder xs ys

pub under-same : (us xs ys : List ℕ) → IsUnder xs ys → IsUnder (us ++ xs) (us ++ ys)
under-same [] xs ys h = h
under-same (u ∷ us) xs ys h = (omega arith, under-same us xs ys h)

-- no element is greater than the one before it
abbrev pub Falls : List ℕ → Type 0
Falls [] = Unit {0}
Falls (x ∷ xs) = AllByRecursion (λ y. y ≤ x) xs × Falls xs

put-low : (r b : ℕ) (xs : List ℕ) → r ≤ b → AllByRecursion (λ y. y ≤ b) xs → AllByRecursion (λ y. y ≤ b) (put r xs)
put-low r b [] low h = (low, tt)
put-low r b (x ∷ xs) low h = elim (cases_Bool (nat_lt r x)) [
  | inl t ↦ subst (AllByRecursion (λ y. y ≤ b)) (sym (cond-true _ (x ∷ put r xs) (r ∷ x ∷ xs) t))
      (h.0, put-low r b xs low h.1)
  | inr t ↦ subst (AllByRecursion (λ y. y ≤ b)) (sym (cond-false _ (x ∷ put r xs) (r ∷ x ∷ xs) t)) (low, h)
]

lower : (a b : ℕ) (xs : List ℕ) → a ≤ b → AllByRecursion (λ y. y ≤ a) xs → AllByRecursion (λ y. y ≤ b) xs
lower a b [] h all = tt
lower a b (x ∷ xs) h all = ((let e = all.0 in omega arith), lower a b xs h all.1)

put-falls : (r : ℕ) (xs : List ℕ) → Falls xs → Falls (put r xs)
put-falls r [] h = (tt, tt)
put-falls r (x ∷ xs) h = elim (cases_lt r x) [
  | inl low ↦ subst Falls (sym (cond-true _ (x ∷ put r xs) (r ∷ x ∷ xs) (lt-ltb r x low)))
      (put-low r x xs (omega arith) h.0, put-falls r xs h.1)
  | inr high ↦ subst Falls (sym (cond-false _ (x ∷ put r xs) (r ∷ x ∷ xs) (le-ltb r x high)))
      ((high, lower x r xs high h.0), h)
]

pub order-falls : (xs : List ℕ) → Falls (falling_order xs)
order-falls [] = tt
order-falls (x ∷ xs) = put-falls x _ (order-falls xs)

-- a greatest first row against one put among others
under-front : (r x : ℕ) (xs ys : List ℕ) → x ≤ r → Falls (x ∷ xs) → IsUnder xs ys → IsUnder (x ∷ xs) (put r ys)
under-front r x [] [] le falls h = (le, tt)
under-front r x (z ∷ xs) [] le falls h = absurd h
under-front r x [] (y ∷ ys) le falls h = elim (cases_lt r y) [
  | inr high ↦ subst (IsUnder (x ∷ [])) (sym (cond-false _ (y ∷ put r ys) (r ∷ y ∷ ys) (le-ltb r y high)))
      (le, h)
  | inl low ↦ subst (IsUnder (x ∷ [])) (sym (cond-true _ (y ∷ put r ys) (r ∷ y ∷ ys) (lt-ltb r y low)))
      (omega arith, tt)
]
under-front r x (z ∷ xs) (y ∷ ys) le falls h = elim (cases_lt r y) [
  | inr high ↦ subst (IsUnder (x ∷ (z ∷ xs)))
      (sym (cond-false _ (y ∷ put r ys) (r ∷ y ∷ ys) (le-ltb r y high))) (le, h)
  | inl low ↦ subst (IsUnder (x ∷ (z ∷ xs))) (sym (cond-true _ (y ∷ put r ys) (r ∷ y ∷ ys) (lt-ltb r y low)))
      (omega arith, under-front r z xs ys (let e = falls.0.0 in omega arith) falls.1 h.1)
]

under-put : (r : ℕ) (xs ys : List ℕ) → Falls xs → IsUnder xs ys → IsUnder (put r xs) (put r ys)
under-put r [] [] falls h = (omega arith, tt)
under-put r [] (y ∷ ys) falls h = elim (cases_lt r y) [
  | inl low ↦ subst (IsUnder (r ∷ [])) (sym (cond-true _ (y ∷ put r ys) (r ∷ y ∷ ys) (lt-ltb r y low)))
      (omega arith, tt)
  | inr high ↦ subst (IsUnder (r ∷ [])) (sym (cond-false _ (y ∷ put r ys) (r ∷ y ∷ ys) (le-ltb r y high)))
      (omega arith, tt)
]
under-put r (x ∷ xs) [] falls h = absurd h
under-put r (x ∷ xs) (y ∷ ys) falls h = elim (cases_lt r x) [
  | inl low ↦
      rw (cond-true _ (x ∷ put r xs) (r ∷ x ∷ xs) (lt-ltb r x low))
      (subst (IsUnder (x ∷ put r xs))
      (sym (cond-true _ (y ∷ put r ys) (r ∷ y ∷ ys) (lt-ltb r y (let e = h.0 in omega arith))))
      (h.0, under-put r xs ys falls.1 h.1))
  | inr high ↦
      rw (cond-false _ (x ∷ put r xs) (r ∷ x ∷ xs) (le-ltb r x high)) (elim (cases_lt r y) [
        | inl low' ↦ subst (IsUnder (r ∷ x ∷ xs))
            (sym (cond-true _ (y ∷ put r ys) (r ∷ y ∷ ys) (lt-ltb r y low')))
            (omega arith, under-front r x xs ys high falls h.1)
        | inr high' ↦ subst (IsUnder (r ∷ x ∷ xs))
            (sym (cond-false _ (y ∷ put r ys) (r ∷ y ∷ ys) (le-ltb r y high'))) (omega arith, h)
      ])
]

-- with more rows
pub under-order : (xs ys : List ℕ) → IsUnder (falling_order xs) (falling_order (xs ++ ys))
under-order [] ys = tt
under-order (x ∷ xs) ys = under-put x _ _ (order-falls xs) (under-order xs ys)

-- what is nowhere less than a list that has the greater element at the first difference precedes what begins with
-- the other
pub stands_before : (rows rest im more : List ℕ) → is_less rows im ≡ true → IsUnder im more
    → before more (rows ++ rest) ≡ true
stands_before [] rest im more h u = absurd (both_ways _ refl h)
stands_before (x ∷ rows) rest [] more h u = absurd (both_ways _ refl h)
stands_before (x ∷ rows) rest (y ∷ im) [] h u = absurd u
stands_before (x ∷ rows) rest (y ∷ im) (z ∷ more) h u =
    elim (cases_lt x z) [
      | inl low ↦ or_left _ _ (lt-ltb x z low)
      | inr high ↦ elim (or_cases _ _ h) [
        | inl less ↦ absurd (let l : x < y = ltb-true _ _ less in let e = u.0 in omega arith)
        | inr same ↦
            let s = and_parts _ _ same in
            let e : x ≡ y = eqb-true _ _ s.0 in
            let le = u.0 in
            or_right _ _ (and_from _ _ (eq-eqb z x (omega arith)) (stands_before rows rest im more s.1 u.1))
      ]
    ]

-- falling order by swaps of neighbours
put_by_swaps : (r : ℕ) (xs : List ℕ) → (ks : List ℕ) × (reordered ks (r ∷ xs) ≡ put r xs)
put_by_swaps r [] = ([], refl)
put_by_swaps r (x ∷ xs) = elim (cases_Bool (nat_lt r x)) [
  | inl t ↦
      let p = put_by_swaps r xs in (
        0 ∷ map (λ k. suc k) p.0,
        cc (reordered-inside x p.0 (r ∷ xs), p.1, cond-true _ (x ∷ put r xs) (r ∷ x ∷ xs) t),
      )
  | inr t ↦ ([], sym (cond-false _ (x ∷ put r xs) (r ∷ x ∷ xs) t))
]

pub order_by_swaps : (xs : List ℕ) → (ks : List ℕ) × (reordered ks xs ≡ falling_order xs)
order_by_swaps [] = ([], refl)
order_by_swaps (x ∷ xs) =
    let p = order_by_swaps xs in
    let r = put_by_swaps x (falling_order xs) in (
      map (λ k. suc k) p.0 ++ r.0,
      cc (reordered-append (map (λ k. suc k) p.0) r.0 (x ∷ xs), reordered-inside x p.0 xs, p.1, r.1),
    )

-- one of the elements is x
abbrev pub IsMember : ℕ → List ℕ → Type 0
IsMember x [] = ⊥
IsMember x (y ∷ ys) = (y ≡ x) ⊎ IsMember x ys

-- all elements differ
abbrev pub Differ : List ℕ → Type 0
Differ [] = Unit {0}
Differ (x ∷ xs) = AllByRecursion (λ y. x ≡ y → ⊥) xs × Differ xs

-- xs in another order: some elements in front, and the rest as they were
pub record Pulled (test : ℕ → Bool) (front xs : List ℕ) : Type 0 where
  pub swaps : List ℕ
  pub rest : List ℕ
  pub is : reordered swaps xs ≡ front ++ rest
  pub kept : filter test rest ≡ filter test xs
  pub members : (z : ℕ) → IsMember z xs → IsMember z front ⊎ IsMember z rest

module _ (test : ℕ → Bool) where
  pull_one : (x : ℕ) (xs : List ℕ) → test x ≡ false → IsMember x xs → Pulled test (x ∷ []) xs
  pull_one x [] none h = absurd h
  pull_one x (y ∷ ys) none (inl e) = record {
    swaps = [];
    rest = ys;
    is = cc;
    kept = sym (cond-false _ (y ∷ filter test ys) (filter test ys) (ap test e ∙ none));
    members = λ z h. elim h [ inl e' ↦ inl (inl (sym e ∙ e')) | inr r ↦ inr r ];
  }
  pull_one x (y ∷ ys) none (inr h) =
      let p = pull_one x ys none h in
      record {
        swaps = map (λ k. suc k) p.swaps ++ 0 ∷ [];
        rest = y ∷ p.rest;
        is = cc (reordered-append (map (λ k. suc k) p.swaps) (0 ∷ []) (y ∷ ys), reordered-inside y p.swaps ys);
        kept = cc;
        members = λ z k. elim k [
          | inl e ↦ inr (inl e)
          | inr r ↦ elim (p.members z r) [ inl a ↦ inl a | inr a ↦ inr (inr a) ]
        ];
      }

  -- several elements that differ and fail a test
  pub pull : (front xs : List ℕ) → AllByRecursion (λ x. test x ≡ false) front → Differ front
      → AllByRecursion (λ x. IsMember x xs) front → Pulled test front xs
  pull [] xs none apart h = record { swaps = []; rest = xs; is = refl; kept = refl; members = λ z k. inr k }
  pull (x ∷ front) xs none apart h =
      let one = pull_one x xs none.0 h.0 in
      let more = pull front one.rest none.1 apart.1 (remain x front xs one apart.0 h.1) in
      let behind = reorder_behind (x ∷ []) one.rest more.swaps in
      record {
        swaps = one.swaps ++ behind.0;
        rest = more.rest;
        is = cc (reordered-append one.swaps behind.0 xs);
        kept = cc;
        members = λ z k. elim (one.members z k) [
          | inl a ↦ inl (elim a [ inl e ↦ inl e | inr b ↦ absurd b ])
          | inr a ↦ elim (more.members z a) [ inl b ↦ inl (inr b) | inr b ↦ inr b ]
        ];
      }
    where
      remain : (x : ℕ) (front xs : List ℕ) (one : Pulled test (x ∷ []) xs) → AllByRecursion (λ y. x ≡ y → ⊥) front
          → AllByRecursion (λ y. IsMember y xs) front → AllByRecursion (λ y. IsMember y one.rest) front
      remain x [] xs one apart h = tt
      remain x (y ∷ front) xs one apart h = (
        elim (one.members y h.0) [ inl a ↦ elim a [ inl e ↦ absurd (apart.0 e) | inr b ↦ absurd b ] | inr a ↦ a ],
        remain x front xs one apart.1 h.1,
      )
