-- The nodes of a tree that begin with some rows, and those below them.
use Rattle.std.proofs.Common.{◌≡◌, ℕ, suc, ◌<◌, ◌+◌, Bool, true, false, not, ◌&&◌, cond, eqb, ltb, List, [], ◌∷◌, ◌++◌}
use Rattle.std.proofs.Common.{map, length, refl, sym, ap, ◌∙◌, inl, inr, arith, append-nil, length-append, map-id}
use Rattle.std.proofs.Common.{lt-ltb, le-ltb}
use Rattle.std.specs.List.{filter, AllByRecursion}
use Rattle.std.proofs.lemmas.Bool.{cond-true, cond-false, cases_Bool, and_parts, and_from, and_left, and_right}
use Rattle.std.proofs.lemmas.Bool.{eqb-true}
use Rattle.fx_base.proofs.Lists.{each-map, each-all, each-weaker, filter_agree_each, list_any_agree}
use Rattle.fx_designs.specs.Answers.{before, lists}
use Rattle.fx_laws.specs.Trees.{Tree, IsTree, tree_prefixes, is_tree_design}
use Rattle.fx_laws.specs.Walks.{through, is_candidate, under, subtree}
use Rattle.fx_laws.proofs.Order.{Sorted, nonempty, lists-sorted}
use Rattle.fx_laws.proofs.Candidates.{under-none}
use Rattle.fx_laws.proofs.Nodes.{cut, some_before, design-candidate}
use Rattle.fx_tree.specs.Ranked.{extends}
use Rattle.fx_tree.proofs.Place.{split_of, before-apart}
use Rattle.fx_tree.proofs.Lots.{Ranged, beginning}
use Rattle.fx_tree.proofs.Inside.{filter-and, through-same}

pub filter-all : (E : List ℕ → Bool) (xs : List (List ℕ)) → AllByRecursion (λ y. E y ≡ true) xs → filter E xs ≡ xs
filter-all E [] h = refl
filter-all E (y ∷ ys) h = cc (cond-true (E y) _ _ h.0, filter-all E ys h.1)

-- Of the items through the first that passes D, those that pass E, where each D before an E is an E.
pub block : (E D C : List ℕ → Bool) (xs : List (List ℕ)) → Sorted xs → ((y : List ℕ) → D y ≡ true → C y ≡ true)
    → ((d y : List ℕ) → D d ≡ true → before d y ≡ true → E y ≡ true → E d ≡ true)
    → filter E (through D (filter C xs)) ≡ through D (filter (λ y. E y && C y) xs)
block E D C xs sorted inside near =
    cc (
      cut D C inside F xs sorted (each-all _ xs (λ y. refl)),
      filter-and (λ y. C y && not (F y)) E xs,
      filter_agree_each (λ y. (C y && not (F y)) && E y) (λ y. (E y && C y) && not (F' y)) xs (each-all _ xs agree),
      cut (λ y. D y && E y) (λ y. E y && C y)
          (λ y h. let k = and_parts (D y) (E y) h in and_from _ _ k.1 (inside y k.0)) F' xs sorted
          (each-all _ xs (λ y. refl)),
      through-same (λ y. D y && E y) D (λ y. E y && C y) (λ y h. unit (D y) (E y) (and_parts (E y) (C y) h).0) xs,
    )
  where
    F : List ℕ → Bool
    F y = some_before D xs y

    F' : List ℕ → Bool
    F' y = some_before (λ z. D z && E z) xs y

    unit : (a b : Bool) → b ≡ true → (a && b) ≡ a
    unit true b h = h
    unit false b h = refl

    turn : (a b c d : Bool) → b ≡ d → c ≡ true → ((a && not b) && c) ≡ ((c && a) && not d)
    turn true b c d e h = rw (e, h) (unit (not d) true refl)
    turn false b c d e h = rw h refl

    same-seen : (y : List ℕ) → E y ≡ true → F y ≡ F' y
    same-seen y e =
        list_any_agree (λ z. D z && before z y) (λ z. (D z && E z) && before z y) (λ z. elim (cases_Bool (D z)) [
          | inr out ↦ and_left _ _ out ∙ sym (and_left _ _ (and_left _ _ out))
          | inl holds ↦ elim (cases_Bool (before z y)) [
            | inr late ↦ cc (and_right _ _ late)
            | inl first ↦
                and_from _ _ holds first ∙ sym (and_from _ _ (and_from _ _ holds (near z y holds first e)) first)
          ]
        ]) xs

    agree : (y : List ℕ) → ((C y && not (F y)) && E y) ≡ ((E y && C y) && not (F' y))
    agree y = elim (cases_Bool (E y)) [
      | inl e ↦ turn (C y) (F y) (E y) (F' y) (same-seen y e) e
      | inr e ↦ and_right _ _ e ∙ sym (and_left _ _ (and_left _ _ e))
    ]

module _ (t : Tree) (law : IsTree t) (r : ℕ) (tail : List ℕ) (k : ℕ) (deep : length (r ∷ tail) + k ≡ t.size)
    (ranged : Ranged t.rows (r ∷ tail))
    (candidate : is_candidate t (r ∷ tail) ≡ true) where
  abbrev front : List ℕ
  front = r ∷ tail

  -- the candidates that begin with front
  pub all-from : filter (λ y. extends y front && is_candidate t y) (tree_prefixes t) ≡ subtree t k front
  unfolding under
  all-from =
      let size : t.size ≡ suc (length tail + k) = omega arith in
      filter-and (λ y. extends y front) (is_candidate t) (tree_prefixes t)
      ∙ ap (filter (is_candidate t))
      (ap (λ n. filter (λ y. extends y front) (lists t.rows n)) size ∙ beginning t.rows k r tail ranged)
      ∙ ap (λ l. filter (is_candidate t) (l ∷ map (λ s. front ++ s) (lists t.rows k))) (append-nil front)
      ∙ cond-true (is_candidate t front) _ _ candidate
      ∙ (elim (cases_Bool (t.allowed front)) [
        | inl a ↦ cc (cond-true (t.allowed front) (under t k front) [] a)
        | inr a ↦ cc (under-none t law k front (omega arith) a, cond-false (t.allowed front) (under t k front) [] a)
      ])

module _ (t : Tree) (law : IsTree t) (r : ℕ) (tail : List ℕ) (k : ℕ) (deep : length (r ∷ tail) + k ≡ t.size)
    (ranged : Ranged t.rows (r ∷ tail))
    (candidate : is_candidate t (r ∷ tail) ≡ true)
    (none : (d : List ℕ) → is_tree_design t d ≡ true → before d (r ∷ tail) ≡ true → ⊥) where
  abbrev c : List ℕ
  c = r ∷ tail

  full : (d : List ℕ) → is_tree_design t d ≡ true → length d ≡ t.size
  full d h = eqb-true (length d) t.size (and_parts (eqb (length d) t.size) (t.canonical d && t.allowed d) h).0

  -- a design before what begins with c begins with c
  near : (d y : List ℕ) → is_tree_design t d ≡ true → before d y ≡ true → extends y c ≡ true → extends d c ≡ true
  near d y h first e =
      let s = split_of y c e in
      let long = full d h in
      elim (cases_Bool (extends d c)) [
        | inl own ↦ own
        | inr out ↦ absurd (none d h (cc (before-apart d c s.0 (omega arith) out, s.1, first)))
      ]

  abbrev walked-nodes : List (List ℕ)
  walked-nodes = through (is_tree_design t) (under t t.size [])

  -- the nodes that begin with c
  pub nodes-from : filter (λ y. extends y c) walked-nodes ≡ through (is_tree_design t) (subtree t k c)
  unfolding under
  nodes-from =
      cc (
        map-id (tree_prefixes t),
        block (λ y. extends y c) (is_tree_design t) (is_candidate t) (tree_prefixes t) (lists-sorted t.rows t.size)
            (design-candidate t law) near,
        all-from t law r tail k deep ranged candidate,
      )

  under-longer : AllByRecursion (λ y. ltb (length c) (length y) ≡ true) (map (λ s. c ++ s) (lists t.rows k))
  under-longer =
      each-map (λ y. ltb (length c) (length y) ≡ true) (λ s. c ++ s) (lists t.rows k)
      (each-weaker (λ s. 0 < length s) _ (lists t.rows k) (λ s h. lt-ltb _ _ (omega (arith, length-append c s, h)))
      (nonempty t.rows k))

  longer-kept : (xs : List (List ℕ)) → AllByRecursion (λ y. ltb (length c) (length y) ≡ true) xs
      → AllByRecursion (λ y. ltb (length c) (length y) ≡ true) (filter (is_candidate t) xs)
  longer-kept [] h = tt
  longer-kept (y ∷ ys) h =
      elim (is_candidate t y) as
      (λ b. AllByRecursion (λ y. ltb (length c) (length y) ≡ true)
      (cond b (y ∷ filter (is_candidate t) ys) (filter (is_candidate t) ys))) [
        | true ↦ (h.0, longer-kept ys h.1)
        | false ↦ longer-kept ys h.1
      ]

  -- the nodes that are longer than c and begin with it, where c is open
  pub nodes-below : t.allowed c ≡ true → length c < t.size
      → filter (λ y. extends y c && ltb (length c) (length y)) walked-nodes ≡ through (is_tree_design t) (under t k c)
  unfolding under
  nodes-below open' part =
      let E : List ℕ → Bool = λ y. extends y c && ltb (length c) (length y) in
      cc (
        map-id (tree_prefixes t),
        block E (is_tree_design t) (is_candidate t) (tree_prefixes t) (lists-sorted t.rows t.size)
            (design-candidate t law)
            (λ d y h first e. let long = full d h in and_from _ _
            (near d y h first (and_parts (extends y c) (ltb (length c) (length y)) e).0) (lt-ltb _ _ (omega arith))),
        filter_agree_each (λ y. E y && is_candidate t y)
            (λ y. (extends y c && is_candidate t y) && ltb (length c) (length y)) (tree_prefixes t)
            (each-all _ (tree_prefixes t) (λ y. swap (extends y c) (ltb (length c) (length y)) (is_candidate t y))),
        filter-and (λ y. extends y c && is_candidate t y) (λ y. ltb (length c) (length y)) (tree_prefixes t),
        all-from t law r tail k deep ranged candidate,
        cond-true (t.allowed c) (under t k c) [] open',
        cond-false (ltb (length c) (length c)) _ _ (le-ltb (length c) (length c) (omega arith)),
        filter-all (λ y. ltb (length c) (length y)) (under t k c)
            (longer-kept (map (λ s. c ++ s) (lists t.rows k)) under-longer),
      )
    where
      swap : (a b c : Bool) → ((a && b) && c) ≡ ((a && c) && b)
      swap true b true = elim b as (λ z. (z && true) ≡ z) [ true ↦ refl | false ↦ refl ]
      swap true b false = elim b as (λ z. (z && false) ≡ false) [ true ↦ refl | false ↦ refl ]
      swap false b c = refl
