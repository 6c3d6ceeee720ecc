-- The nodes inside a job are the candidates from the job on, through its first design.
use Rattle.std.proofs.Common.{◌≡◌, ℕ, suc, ◌+◌, ◌-◌, ◌<◌, ◌≤◌, Bool, true, false, not, ◌&&◌, ◌||◌, cond, eqb, ltb, List}
use Rattle.std.proofs.Common.{[], ◌∷◌, ◌++◌, map, length, drop, Option, Some, None, refl, sym, ap, ◌∙◌, arith, inl}
use Rattle.std.proofs.Common.{inr, ne_eqb, lt-ltb, append-nil, length-append, length-take, take-append-drop}
use Rattle.std.specs.List.{filter, list_any, find, AllByRecursion}
use Rattle.std.proofs.lemmas.Bool.{cond-true, cond-false, cases_Bool, and_from, and_right, or_left, or_right, and_parts}
use Rattle.std.proofs.lemmas.Bool.{not_from_true, not_from_false}
use Rattle.fx_base.proofs.Lists.{each-map, each-weaker, each-both, filter_agree_each}
use Rattle.fx_designs.specs.Vectors.{same}
use Rattle.fx_designs.specs.Answers.{before, lists}
use Rattle.fx_designs.specs.Nodes.{parent, is_not_after}
use Rattle.fx_laws.specs.Trees.{Tree, IsTree, tree_prefixes, is_tree_design}
use Rattle.fx_laws.specs.Walks.{through, is_candidate, under, subtree}
use Rattle.fx_laws.proofs.Order.{nonempty, lists-sorted, lists-short, before-trans}
use Rattle.fx_laws.proofs.Candidates.{closed-append, parent-append, under-none}
use Rattle.fx_laws.proofs.Nodes.{first_decides, cut, any-less, parent-before}
use Rattle.fx_laws.proofs.Weights.{same-self}
use Rattle.fx_tree.specs.Ranked.{extends}
use Rattle.fx_tree.specs.Inside.{is_own, is_branch_in, is_node_in, nodes_in}
use Rattle.fx_tree.proofs.Lots.{Ranged, beginning}

pub filter-and : (a b : List ℕ → Bool) (xs : List (List ℕ)) → filter (λ p. a p && b p) xs ≡ filter b (filter a xs)
filter-and a b [] = refl
filter-and a b (x ∷ xs) =
    elim (a x) as
    (λ z. cond (z && b x) (x ∷ filter (λ p. a p && b p) xs) (filter (λ p. a p && b p) xs)
    ≡ filter b (cond z (x ∷ filter a xs) (filter a xs))) [
      | true ↦ cc (filter-and a b xs)
      | false ↦ filter-and a b xs
    ]

pub through-same : (D E C : List ℕ → Bool) → ((p : List ℕ) → C p ≡ true → D p ≡ E p) → (xs : List (List ℕ))
    → through D (filter C xs) ≡ through E (filter C xs)
through-same D E C h [] = refl
through-same D E C h (x ∷ xs) =
    elim (cases_Bool (C x)) [
      | inl a ↦ cc (cond-true (C x) (x ∷ filter C xs) _ a, h x a, through-same D E C h xs)
      | inr a ↦ cc (cond-false (C x) (x ∷ filter C xs) _ a, through-same D E C h xs)
    ]

pub same-long : (j s : List ℕ) → 0 < length s → same (j ++ s) j ≡ false
same-long [] [] h = absurd (omega arith)
same-long [] (a ∷ s) h = refl
same-long (b ∷ j) s h = and_right _ _ (same-long j s h)

module _ (t : Tree) (law : IsTree t) (r : ℕ) (tail : List ℕ) where
  abbrev j : List ℕ
  j = r ∷ tail

  abbrev some : List ℕ → Bool
  some p = list_any (λ d. is_own t j d && before d p) (tree_prefixes t)

  abbrev rest : List ℕ → Bool
  rest p = t.canonical p && (same p j || t.allowed (parent p))

  pub after_is : (p : List ℕ) → is_not_after (find (is_own t j) (tree_prefixes t)) p ≡ not (some p)
  after_is p =
      go (find (is_own t j) (tree_prefixes t)) refl
      (first_decides (is_own t j) (tree_prefixes t) (lists-sorted t.rows t.size) p)
    where
      go : (o : Option (List ℕ)) → find (is_own t j) (tree_prefixes t) ≡ o
          → (find (is_own t j) (tree_prefixes t) ≡ None → some p ≡ false)
          × ((d : List ℕ) → find (is_own t j) (tree_prefixes t) ≡ Some d → some p ≡ before d p)
          → is_not_after (find (is_own t j) (tree_prefixes t)) p ≡ not (some p)
      go None e h = cc (e, h.0 e)
      go (Some d) e h = cc (e, h.1 d e)

  unit : (a b : Bool) → b ≡ true → (a && b) ≡ a
  unit true b h = h
  unit false b h = refl

  is_cut : (p : List ℕ) → 0 < length p → length p ≤ t.size
      → is_node_in t j p ≡ ((extends p j && rest p) && not (some p))
  is_cut p long short =
      elim (cases_Bool (some p)) [
        | inl a ↦ and_right (extends p j) _
            (and_right (t.canonical p) _
            (and_right (same p j || is_branch_in t j (parent p)) _ (after_is p ∙ not_from_true _ a))) ∙ sym
            (and_right _ _ (not_from_true _ a))
        | inr a ↦
            let up : some (parent p) ≡ false =
            any-less (λ d. is_own t j d && before d p) (λ d. is_own t j d && before d (parent p))
            (λ d z. let parts = and_parts (is_own t j d) (before d (parent p)) z in
            and_from _ _ parts.0 (before-trans d (parent p) p parts.1 (parent-before p long))) (tree_prefixes t) a in
            let low : ltb (length (parent p)) t.size ≡ true =
            lt-ltb _ _ (omega (arith, length-take (length p - 1) p)) in
            let branch : is_branch_in t j (parent p) ≡ t.allowed (parent p) =
            unit (t.allowed (parent p)) _ (and_from _ _ low (not_from_false _ up)) in
            cc (branch, unit _ _ (after_is p ∙ not_from_false _ a), unit (extends p j && rest p) _ (not_from_false _ a))
      ]

  own_inside : (d : List ℕ) → is_own t j d ≡ true → (extends d j && rest d) ≡ true
  own_inside d h =
      let own = and_parts (is_tree_design t d) (extends d j) h in
      let parts =
      and_parts (t.canonical d) (t.allowed d)
      (and_parts (eqb (length d) t.size) (t.canonical d && t.allowed d) own.0).1 in
      let whole : parent d ++ drop (length d - 1) d ≡ d = take-append-drop (length d - 1) d in
      let allowed : t.allowed (parent d) ≡ true =
      closed-append t.allowed law.allowed (parent d) (drop (length d - 1) d)
      (rw whole parts.1) in
      and_from _ _ own.1 (and_from _ _ parts.0 (or_right _ _ allowed))

  -- below j the two ways to say "under an allowed prefix" are one
  rest_is : (s : List ℕ) → 0 < length s → rest (j ++ s) ≡ is_candidate t (j ++ s)
  rest_is [] h = absurd (omega arith)
  rest_is (q ∷ s) h =
      let long : eqb (length (parent (j ++ q ∷ s))) 0 ≡ false =
      ne_eqb _ _ (λ z. omega (arith, z, ap length (parent-append j q s), length-append j (parent (q ∷ s)))) in
      cc (same-long j (q ∷ s) h, long)

  filter-map : (ls : List (List ℕ)) → AllByRecursion (λ s. 0 < length s) ls
      → filter rest (map (λ s. j ++ s) ls) ≡ filter (is_candidate t) (map (λ s. j ++ s) ls)
  filter-map ls h =
      filter_agree_each rest (is_candidate t) (map (λ s. j ++ s) ls)
      (each-map (λ q. rest q ≡ is_candidate t q) (λ s. j ++ s) ls (each-weaker (λ s. 0 < length s) _ ls rest_is h))

  pub nodes_in_are : (k : ℕ) → length j + k ≡ t.size → t.canonical j ≡ true → Ranged t.rows j
      → nodes_in t j ≡ through (is_tree_design t) (subtree t k j)
  unfolding nodes_in under
  nodes_in_are k deep canonical ranged =
      let size : t.size ≡ suc (length tail + k) = omega arith in
      let own : rest j ≡ true = and_from _ _ canonical (or_left _ _ (same-self j)) in
      let below : filter rest (map (λ s. j ++ s) (lists t.rows k)) ≡ under t k j =
      filter-map (lists t.rows k) (nonempty t.rows k) in
      let all : filter (λ p. extends p j && rest p) (tree_prefixes t) ≡ j ∷ under t k j =
      cc (
        filter-and (λ p. extends p j) rest (tree_prefixes t),
        size,
        beginning t.rows k r tail ranged,
        append-nil j,
        cond-true (rest j) _ _ own,
        below,
      ) in
      let whole : j ∷ under t k j ≡ subtree t k j = elim (cases_Bool (t.allowed j)) [
        | inl a ↦ cc (cond-true (t.allowed j) (under t k j) [] a)
        | inr a ↦ cc (under-none t law k j (omega arith) a, cond-false (t.allowed j) (under t k j) [] a)
      ] in
      cc (
        filter_agree_each (is_node_in t j) (λ p. (extends p j && rest p) && not (some p)) (tree_prefixes t)
            (each-weaker (λ p. (0 < length p) × (length p ≤ t.size)) _ (tree_prefixes t) (λ p h. is_cut p h.0 h.1)
            (each-both _ _ (tree_prefixes t) (nonempty t.rows t.size) (lists-short t.rows t.size))),
        cut (is_own t j) (λ p. extends p j && rest p) own_inside some (tree_prefixes t) (lists-sorted t.rows t.size)
            (each-same (tree_prefixes t)),
        through-same (is_own t j) (is_tree_design t) (λ p. extends p j && rest p)
            (λ p h. unit (is_tree_design t p) (extends p j) (and_parts (extends p j) (rest p) h).0) (tree_prefixes t),
        all,
        whole,
      )
    where
      each-same : (xs : List (List ℕ)) → AllByRecursion (λ p. some p ≡ some p) xs
      each-same [] = tt
      each-same (p ∷ xs) = (refl, each-same xs)
