-- The nodes of a tree are the candidates through the first design.
use Rattle.std.proofs.Common.{◌≡◌, ℕ, zero, suc, ◌-◌, ◌<◌, ◌≤◌, Bool, true, false, not, ◌&&◌, ◌||◌, eqb, ltb}
use Rattle.std.proofs.Common.{List, [], ◌∷◌, ◌++◌, map, length, take, drop, Option, Some, None, refl, sym, ap, ◌∙◌, inl}
use Rattle.std.proofs.Common.{inr, arith, eq-eqb, lt-ltb, take-append-drop, map-id, length-take}
use Rattle.std.specs.List.{filter, list_any, find, AllByRecursion}
use Rattle.std.proofs.lemmas.Bool.{cond-true, cond-false, cases_Bool, and_from, and_left, and_right, or_left, or_right}
use Rattle.std.proofs.lemmas.Bool.{or_from, and_parts, or_parts, false_from_ne_true, not_from_true, not_from_false}
use Rattle.fx_base.proofs.Lists.{each-all, each-weaker, filter_agree_each, each-both}
use Rattle.fx_designs.specs.Answers.{before}
use Rattle.fx_designs.specs.Nodes.{parent, is_not_after}
use Rattle.fx_laws.specs.Trees.{Tree, IsTree, tree_prefixes, is_tree_design, tree_answer, is_tree_branch, is_tree_node}
use Rattle.fx_laws.specs.Trees.{tree_nodes, tree_mark, tree_marks}
use Rattle.fx_laws.specs.Walks.{through, is_candidate, under, mark_at}
use Rattle.fx_laws.proofs.Through.{filter-none}
use Rattle.fx_laws.proofs.Candidates.{closed-append}
use Rattle.fx_laws.proofs.Order.{Sorted, lists-sorted, lists-short, before-self, before-trans, nonempty}

pub any-less : (P Q : List ℕ → Bool) → ((x : List ℕ) → Q x ≡ true → P x ≡ true) → (xs : List (List ℕ))
    → list_any P xs ≡ false → list_any Q xs ≡ false
any-less P Q h [] e = refl
any-less P Q h (x ∷ xs) e =
    let parts = or_parts (P x) (list_any P xs) e in
    or_from _ _ (false_from_ne_true (Q x) (λ z. let w = h x z in absurd (cc (w, parts.0)))) (any-less P Q h xs parts.1)

find-candidates : (D C : List ℕ → Bool) → ((x : List ℕ) → D x ≡ true → C x ≡ true) → (xs : List (List ℕ))
    → find D (filter C xs) ≡ find D xs
find-candidates D C h [] = refl
find-candidates D C h (x ∷ xs) =
    elim (cases_Bool (C x)) [
      | inl a ↦ cc (cond-true (C x) (x ∷ filter C xs) _ a, find-candidates D C h xs)
      | inr a ↦
          let out : D x ≡ false = false_from_ne_true (D x) (λ z. let w = h x z in absurd (cc (w, a))) in
          cc (
            cond-false (C x) (x ∷ filter C xs) _ a,
            find-candidates D C h xs,
            cond-false (D x) (Some x) (find D xs) out,
          )
    ]

pub map_same : {Y : Type 0} (f g : List ℕ → Y) (p : List ℕ → Bool) → ((x : List ℕ) → p x ≡ true → f x ≡ g x)
    → (xs : List (List ℕ)) → map f (filter p xs) ≡ map g (filter p xs)
map_same f g p h [] = refl
map_same f g p h (x ∷ xs) =
    elim (cases_Bool (p x)) [
      | inl a ↦ cc (cond-true (p x) (x ∷ filter p xs) _ a, h x a, map_same f g p h xs)
      | inr a ↦ cc (cond-false (p x) (x ∷ filter p xs) _ a, map_same f g p h xs)
    ]

pub parent-before : (p : List ℕ) → 0 < length p → before (parent p) p ≡ true
parent-before p h = go p (length p - 1) (omega arith)
  where
    go : (p : List ℕ) (k : ℕ) → k < length p → before (take k p) p ≡ true
    go [] k h = absurd (omega arith)
    go (a ∷ p) zero h = refl
    go (a ∷ p) (suc k) h = or_right _ _ (and_from _ _ (eq-eqb a a refl) (go p k (omega arith)))

module _ (D : List ℕ → Bool) where
  -- whether an item that passes precedes p
  abbrev pub some_before : List (List ℕ) → List ℕ → Bool
  some_before xs p = list_any (λ d. D d && before d p) xs

  none-back : (x : List ℕ) (xs : List (List ℕ)) → AllByRecursion (λ y. before x y ≡ true) xs → (p : List ℕ)
      → before x p ≡ false → some_before xs p ≡ false
  none-back x [] h p k = refl
  none-back x (y ∷ xs) h p k =
      let e : before y p ≡ false =
      false_from_ne_true (before y p) (λ z. let w = before-trans x y p h.0 z in absurd (cc (w, k))) in
      or_from _ _ (and_right (D y) _ e) (none-back x xs h.1 p k)

  -- the first that passes decides
  pub first_decides : (xs : List (List ℕ)) → Sorted xs → (p : List ℕ)
      → (find D xs ≡ None → some_before xs p ≡ false)
      × ((d : List ℕ) → find D xs ≡ Some d → some_before xs p ≡ before d p)
  first_decides [] h p = (λ e. refl, λ d e. absurd (cc e))
  first_decides (x ∷ xs) h p =
      elim (cases_Bool (D x)) [
        | inl holds ↦ (
          λ e. let z = sym (cond-true (D x) (Some x) (find D xs) holds) ∙ e in absurd (cc z),
          λ d e.
              let z : x ≡ d = let w = sym (cond-true (D x) (Some x) (find D xs) holds) ∙ e in cc w in
              elim (cases_Bool (before x p)) [
                | inl a ↦ cc (or_left _ _ (and_from _ _ holds a), a, z)
                | inr a ↦ cc (or_from _ _ (and_right _ _ a) (none-back x xs h.0 p a), a, z)
              ],
        )
        | inr fails ↦
            let rest = first_decides xs h.1 p in
            let skip : find D (x ∷ xs) ≡ find D xs = cond-false (D x) (Some x) (find D xs) fails in
            let same : some_before (x ∷ xs) p ≡ some_before xs p =
            cc fails in (
              λ e. same ∙ rest.0 (sym skip ∙ e),
              λ d e. same ∙ rest.1 d (sym skip ∙ e),
            )
      ]

  module _ (C : List ℕ → Bool) (f : List ℕ → Bool) (x : List ℕ) (ws : List (List ℕ)) where
    later : (xs : List (List ℕ)) → AllByRecursion (λ y. before x y ≡ true) xs
        → AllByRecursion (λ y. f y ≡ some_before (x ∷ ws) y) xs → D x ≡ true
        → AllByRecursion (λ y. (C y && not (f y)) ≡ false) xs
    later [] h k e = tt
    later (y ∷ xs) h k e =
        let z : f y ≡ true = k.0 ∙ or_left _ _ (and_from _ _ e h.0) in
        (and_right (C y) _ (not_from_true (f y) z), later xs h.1 k.1 e)

    shift : (xs : List (List ℕ)) → AllByRecursion (λ y. f y ≡ some_before (x ∷ ws) y) xs → D x ≡ false
        → AllByRecursion (λ y. f y ≡ some_before ws y) xs
    shift [] k e = tt
    shift (y ∷ xs) k e = (cc (k.0, e), shift xs k.1 e)

  module _ (C : List ℕ → Bool) (inside : (x : List ℕ) → D x ≡ true → C x ≡ true) (f : List ℕ → Bool) where
    -- those with none that passes before them are those through the first that passes
    pub cut : (xs : List (List ℕ)) → Sorted xs → AllByRecursion (λ x. f x ≡ some_before xs x) xs
        → filter (λ x. C x && not (f x)) xs ≡ through D (filter C xs)
    cut [] h k = refl
    cut (x ∷ xs) h k =
        let first : f x ≡ false =
        k.0 ∙ or_from _ _ (and_right (D x) _ (before-self x)) (none-back x xs h.0 x (before-self x)) in
        let here : (C x && not (f x)) ≡ C x =
        rw first (elim (C x) as (λ b. (b && true) ≡ b) [ true ↦ refl | false ↦ refl ]) in
        elim (cases_Bool (D x)) [
          | inl holds ↦
              let in' = inside x holds in
              let rest : filter (λ y. C y && not (f y)) xs ≡ [] =
              filter-none (λ y. C y && not (f y)) xs (later C f x xs xs h.0 k.1 holds) in
              cond-true (C x && not (f x)) _ _ (here ∙ in') ∙ ap (λ l. x ∷ l) rest
              ∙ sym (ap (through D) (cond-true (C x) (x ∷ filter C xs) (filter C xs) in') ∙ ap (λ l. x ∷ l)
              (cond-true (D x) [] _ holds))
          | inr fails ↦
              let rest = cut xs h.1 (shift C f x xs xs k.1 fails) in
              elim (cases_Bool (C x)) [
                | inl a ↦ cond-true (C x && not (f x)) _ _ (here ∙ a) ∙ ap (λ l. x ∷ l) rest ∙ sym
                    (ap (through D) (cond-true (C x) (x ∷ filter C xs) (filter C xs) a) ∙ ap (λ l. x ∷ l)
                    (cond-false (D x) [] _ fails))
                | inr a ↦ cc (
                  cond-false (C x && not (f x)) _ _ (here ∙ a),
                  rest,
                  cond-false (C x) (x ∷ filter C xs) (filter C xs) a,
                )
              ]
        ]

module _ (t : Tree) (law : IsTree t) where
  abbrev any_before : List ℕ → Bool
  any_before p = list_any (λ d. is_tree_design t d && before d p) (tree_prefixes t)

  after_is : (p : List ℕ) → is_not_after (tree_answer t) p ≡ not (any_before p)
  after_is p =
      let h = first_decides (is_tree_design t) (tree_prefixes t) (lists-sorted t.rows t.size) p in
      go (tree_answer t) refl h
    where
      go : (o : Option (List ℕ)) → tree_answer t ≡ o
          → (find (is_tree_design t) (tree_prefixes t) ≡ None → any_before p ≡ false)
          × ((d : List ℕ) → find (is_tree_design t) (tree_prefixes t) ≡ Some d → any_before p ≡ before d p)
          → is_not_after (tree_answer t) p ≡ not (any_before p)
      go None e h = cc (e, h.0 e)
      go (Some d) e h = cc (e, h.1 d e)

  is_cut : (p : List ℕ) → 0 < length p → length p ≤ t.size → is_tree_node t p ≡ (is_candidate t p && not (any_before p))
  is_cut p some short =
      elim (cases_Bool (any_before p)) [
        | inl a ↦
            let e : is_not_after (tree_answer t) p ≡ false = after_is p ∙ not_from_true _ a in
            and_right _ _ (and_right _ _ e) ∙ sym (and_right _ _ (not_from_true _ a))
        | inr a ↦
            let e : is_not_after (tree_answer t) p ≡ true = after_is p ∙ not_from_false _ a in
            let up : any_before (parent p) ≡ false =
            any-less (λ d. is_tree_design t d && before d p) (λ d. is_tree_design t d && before d (parent p))
            (λ d z. let parts = and_parts (is_tree_design t d) (before d (parent p)) z in
            and_from _ _ parts.0 (before-trans d (parent p) p parts.1 (parent-before p some))) (tree_prefixes t) a in
            let low : ltb (length (parent p)) t.size ≡ true =
            lt-ltb _ _ (omega (arith, length-take (length p - 1) p)) in
            let branch : is_tree_branch t (parent p) ≡ t.allowed (parent p) =
            unit (t.allowed (parent p)) _ (and_from _ _ low (not_from_false _ up)) in
            cc (branch, unit _ _ e, unit (is_candidate t p) _ (not_from_false _ a))
      ]
    where
      unit : (a b : Bool) → b ≡ true → (a && b) ≡ a
      unit true b h = h
      unit false b h = refl

  pub design-candidate : (d : List ℕ) → is_tree_design t d ≡ true → is_candidate t d ≡ true
  design-candidate d h =
      let parts = and_parts _ _ (and_parts (eqb (length d) t.size) (t.canonical d && t.allowed d) h).1 in
      let whole : parent d ++ drop (length d - 1) d ≡ d = take-append-drop (length d - 1) d in
      let allowed : t.allowed (parent d) ≡ true =
      closed-append t.allowed law.allowed (parent d) (drop (length d - 1) d)
      (rw whole parts.1) in
      and_from _ _ parts.0 (or_right _ _ allowed)

  pub nodes_are : tree_nodes t ≡ through (is_tree_design t) (under t t.size [])
  unfolding tree_nodes under
  nodes_are =
      cc (
        filter_agree_each (is_tree_node t) (λ p. is_candidate t p && not (any_before p)) (tree_prefixes t)
            (each-weaker (λ p. (0 < length p) × (length p ≤ t.size)) _ (tree_prefixes t) (λ p h. is_cut p h.0 h.1)
            (each-both _ _ (tree_prefixes t) (nonempty t.rows t.size) (lists-short t.rows t.size))),
        cut (is_tree_design t) (is_candidate t) design-candidate any_before (tree_prefixes t) (lists-sorted t.rows t.size)
            (each-all _ (tree_prefixes t) (λ p. refl)),
        map-id (tree_prefixes t),
      )

  pub answer_is : tree_answer t ≡ find (is_tree_design t) (under t t.size [])
  unfolding under
  answer_is =
      cc (
        find-candidates (is_tree_design t) (is_candidate t) design-candidate (tree_prefixes t),
        map-id (tree_prefixes t),
      )

  go : (p : List ℕ) (a : Bool) → t.allowed p ≡ a → (b : Bool) → ltb (length p) t.size ≡ b → not (any_before p) ≡ true
      → tree_mark t p ≡ mark_at t p
  go p true e true f n =
      let branch : is_tree_branch t p ≡ true = and_from _ _ e (and_from _ _ f n) in
      cc (
        cond-true (t.allowed p) _ _ e,
        cond-true (is_tree_branch t p) _ _ branch,
        cond-true (ltb (length p) t.size) _ _ f,
      )
  go p true e false f n =
      let branch : is_tree_branch t p ≡ false = and_right _ _ (and_left _ _ f) in
      cc (
        cond-true (t.allowed p) _ _ e,
        cond-false (is_tree_branch t p) _ _ branch,
        cond-false (ltb (length p) t.size) _ _ f,
      )
  go p false e b f n = cc (cond-false (t.allowed p) _ _ e)

  mark-same : (p : List ℕ) → is_tree_node t p ≡ true → tree_mark t p ≡ mark_at t p
  mark-same p h =
      let last : is_not_after (tree_answer t) p ≡ true =
      (and_parts (eqb (length (parent p)) 0 || is_tree_branch t (parent p)) (is_not_after (tree_answer t) p)
      (and_parts (t.canonical p) _ h).1).1 in
      let none : not (any_before p) ≡ true = sym (after_is p) ∙ last in
      go p (t.allowed p) refl (ltb (length p) t.size) refl none

  pub marks_are : tree_marks t ≡ map (mark_at t) (tree_nodes t)
  unfolding tree_marks tree_nodes
  marks_are = map_same (tree_mark t) (mark_at t) (is_tree_node t) mark-same (tree_prefixes t)
