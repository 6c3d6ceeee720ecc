-- The nodes of a problem in a job, and in the jobs of a lot.
use Rattle.std.proofs.Common.{◌≡◌, ℕ, suc, ◌<◌, ◌≤◌, ◌+◌, ◌-◌, ◌^◌, Bool, true, false, not, ◌&&◌, ◌||◌, eqb, ltb, List}
use Rattle.std.proofs.Common.{[], ◌∷◌, ◌++◌, length, take, drop, Option, Some, None, refl, sym, subst, ap, ◌∙◌}
use Rattle.std.proofs.Common.{inl, inr, arith, length-append, take-append-drop}
use Rattle.std.specs.List.{filter, find, flat_map, list_any}
use Rattle.std.proofs.lemmas.Bool.{cond-true, cond-false, cases_Bool, and_parts, and_from, and_left, and_right}
use Rattle.std.proofs.lemmas.Bool.{or_right, or_cases, not-true, ne_eqb, eqb-true, lt-ltb}
use Rattle.fx_base.proofs.Lists.{each-all, filter_agree_each, find_agree, find-filter}
use Rattle.fx_base.proofs.Members.{has-each}
use Rattle.fx_designs.specs.Galois.{IsField}
use Rattle.fx_designs.specs.Problems.{Problem}
use Rattle.fx_designs.specs.Demands.{is_allowed}
use Rattle.fx_designs.specs.Canonical.{is_canonical}
use Rattle.fx_designs.specs.Patterns.{pattern_of, is_less}
use Rattle.fx_designs.specs.Answers.{before, prefixes, answer}
use Rattle.fx_designs.specs.Nodes.{parent, lot_of, counts, excludes, is_branch, is_complete_allowed, is_not_after}
use Rattle.fx_designs.specs.Nodes.{nodes}
use Rattle.fx_laws.specs.Trees.{Tree, tree_of, tree_answer, is_tree_design, children_of}
use Rattle.fx_laws.specs.Walks.{through, is_candidate, under, subtree}
use Rattle.fx_laws.proofs.Order.{lists-sorted}
use Rattle.fx_laws.proofs.Candidates.{closed-append, under-step}
use Rattle.fx_laws.proofs.Nodes.{first_decides, design-candidate}
use Rattle.fx_tree.proofs.Nodes.{answer-same}
use Rattle.fx_designs.specs.Jobs.{is_of_job, nodes_inside, is_in_a_job, nodes_of_lot, first_of_lot}
use Rattle.fx_tree.specs.Ranked.{extends}
use Rattle.fx_tree.specs.Search.{ranked, is_expanded, search_tree}
use Rattle.fx_tree.proofs.Best.{clash}
use Rattle.fx_tree.proofs.Branches.{design-in, any-none}
use Rattle.fx_tree.proofs.Patterns.{is-ranked}
use Rattle.fx_tree.proofs.Lots.{Ranged}
use Rattle.fx_tree.proofs.Fronts.{front-extends, ranged-all}
use Rattle.fx_tree.proofs.Parts.{all-from, nodes-from, nodes-below}
use Rattle.fx_tree.proofs.SearchTree.{opens-least, opens-plain, no-design, design-plain, walked-law, nodes-walked}
use Rattle.fx_tree.proofs.Jobs.{nodes-inside, job-ranged}

module _ (p : Problem) (f : IsField p.dimensions.q) (some : 0 < p.dimensions.s + p.dimensions.t) where
  abbrev T : Tree
  T = search_tree p

  abbrev D : List ℕ → Bool
  D = is_tree_design (search_tree p)

  -- a branch is open
  pub branch-open : (q : List ℕ) → is_branch p q ≡ true → is_expanded p q ≡ true
  branch-open q h = elim (cases_Bool p.least) [
    | inl e ↦ opens-least p e q ∙ h
    | inr e ↦ opens-plain p e q ∙ (and_parts (is_allowed p.dimensions p.requirement q) _ h).0
  ]

  -- no design precedes a branch where no least pattern is asked
  none-before-branch : (q : List ℕ) → is_branch p q ≡ true → (m : List ℕ) → D m ≡ true → before m q ≡ true → ⊥
  none-before-branch q branch m h first = elim (cases_Bool p.least) [
    | inl e ↦ clash (D m) h (no-design p e m)
    | inr plain ↦
        let own : is_complete_allowed p m ≡ true = sym (design-plain p plain m) ∙ h in
        let parts =
        and_parts (ltb (length q) (p.dimensions.s + p.dimensions.t)) _
        (and_parts (is_allowed p.dimensions p.requirement q) _ branch).1 in
        let none : list_any (λ m. is_complete_allowed p m && excludes p m q) (prefixes p) ≡ false =
        not-true _ parts.1 in
        let one : (is_complete_allowed p m && excludes p m q) ≡ false =
        has-each (λ m. (is_complete_allowed p m && excludes p m q) ≡ false) m (prefixes p)
        (any-none (λ m. is_complete_allowed p m && excludes p m q) (prefixes p) none)
        (design-in (ranked p) (is-ranked p f) m own some) in
        let is : excludes p m q ≡ before m q =
        cond-false p.least
        (counts p.dimensions m q && not (is_less (pattern_of p.dimensions q) (pattern_of p.dimensions m)))
        (before m q) plain in
        clash (is_complete_allowed p m && excludes p m q) (and_from _ _ own (is ∙ first)) one
  ]

  -- nor before what does not stand after the answer
  none-before-answer : (q : List ℕ) → (p.least || is_not_after (answer p) q) ≡ true → (m : List ℕ) → D m ≡ true
      → before m q ≡ true → ⊥
  none-before-answer q h m own first = elim (cases_Bool p.least) [
    | inl e ↦ clash (D m) own (no-design p e m)
    | inr plain ↦
        let last : is_not_after (answer p) q ≡ true =
        elim (or_cases _ _ h) [ inl a ↦ clash p.least a plain | inr a ↦ a ] in
        let design : is_tree_design (tree_of p) m ≡ true = sym (design-plain p plain m) ∙ own in
        let there = design-in (ranked p) (is-ranked p f) m design some in
        let is_counted : list_any (λ z. is_tree_design (tree_of p) z && before z q) (prefixes p) ≡ false =
        go (tree_answer (tree_of p)) refl (cc (answer-same p f plain, last))
        (first_decides (is_tree_design (tree_of p)) (prefixes p) (lists-sorted _ _) q) in
        clash (is_tree_design (tree_of p) m && before m q) (and_from _ _ design first)
        (has-each (λ z. (is_tree_design (tree_of p) z && before z q) ≡ false) m (prefixes p)
        (any-none (λ z. is_tree_design (tree_of p) z && before z q) (prefixes p) is_counted) there)
  ]
    where
      go : (o : Option (List ℕ)) → tree_answer (tree_of p) ≡ o → is_not_after (tree_answer (tree_of p)) q ≡ true →
          (find (is_tree_design (tree_of p)) (prefixes p) ≡ None
          → list_any (λ z. is_tree_design (tree_of p) z && before z q) (prefixes p) ≡ false)
          × ((d : List ℕ) → find (is_tree_design (tree_of p)) (prefixes p) ≡ Some d
          → list_any (λ z. is_tree_design (tree_of p) z && before z q) (prefixes p) ≡ before d q)
          → list_any (λ z. is_tree_design (tree_of p) z && before z q) (prefixes p) ≡ false
      go None e l h = h.0 e
      go (Some d) e l h = h.1 d e ∙ not-true _ (cc (e, l))

  -- an open prefix is a candidate where it is canonical
  open-candidate : (q : List ℕ) → is_canonical p.dimensions p.requirement q ≡ true → is_expanded p (parent q) ≡ true
      → is_candidate T q ≡ true
  open-candidate q canonical h = and_from _ _ canonical (or_right _ _ h)

  pub parent-open : (q : List ℕ) → is_expanded p q ≡ true → is_expanded p (parent q) ≡ true
  parent-open q h =
      closed-append (is_expanded p) (walked-law p f).allowed (parent q) (drop (length q - 1) q)
      (rw (take-append-drop (length q - 1) q) h)

  -- the nodes of the problem in a job that does not stand after the answer are the nodes inside it
  pub job-nodes : (j : List ℕ) → length j ≡ p.dimensions.m + 2 → p.dimensions.m + 2 ≤ p.dimensions.s + p.dimensions.t
      → is_canonical p.dimensions p.requirement j ≡ true
      → is_branch p (lot_of p.dimensions j) ≡ true → (p.least || is_not_after (answer p) j) ≡ true
      → filter (is_of_job p.dimensions j) (nodes p) ≡ nodes_inside p j
  job-nodes j job room canonical branch last =
      cc (
        filter_agree_each (is_of_job p.dimensions j) (λ y. extends y j) (nodes p)
            (each-all _ (nodes p) (λ y. front-extends (p.dimensions.m + 2) y j job)),
        nodes-walked p f,
        go j job canonical (job-ranged p f j job room canonical branch)
            (subst (λ l. is_expanded p l ≡ true) lot (branch-open (lot_of p.dimensions j) branch))
            (none-before-answer j last),
        nodes-inside p f j job room canonical branch,
      )
    where
      lot : lot_of p.dimensions j ≡ parent j
      lot = ap (λ n. take n j) (let e : p.dimensions.m + 1 ≡ length j - 1 = omega arith in e)

      go : (l : List ℕ) → length l ≡ p.dimensions.m + 2 → is_canonical p.dimensions p.requirement l ≡ true
          → Ranged (p.dimensions.q ^ p.dimensions.m) l → is_expanded p (parent l) ≡ true
          → ((d : List ℕ) → D d ≡ true → before d l ≡ true → ⊥)
          → filter (λ y. extends y l) (through D (under T (p.dimensions.s + p.dimensions.t) []))
          ≡ through D (subtree T (p.dimensions.s + p.dimensions.t - length l) l)
      go [] h c r o n = absurd (omega arith)
      go (a ∷ l) h c r o n =
          nodes-from T (walked-law p f) a l (p.dimensions.s + p.dimensions.t - length (a ∷ l)) (omega arith) r
          (open-candidate (a ∷ l) c o) n

  module _ (l : List ℕ) (lot : length l ≡ p.dimensions.m + 1)
      (room : p.dimensions.m + 1 < p.dimensions.s + p.dimensions.t)
      (canonical : is_canonical p.dimensions p.requirement l ≡ true) (branch : is_branch p l ≡ true) where
    lot-ranged : Ranged (p.dimensions.q ^ p.dimensions.m) l
    unfolding is_canonical
    lot-ranged = ranged-all (p.dimensions.q ^ p.dimensions.m) l (and_parts _ _ (and_parts _ _ canonical).1).0

    -- the nodes of the problem in the jobs of a lot that is a branch
    pub lot-nodes : nodes_of_lot p l ≡ through D (under T (p.dimensions.s + p.dimensions.t - length l) l)
    unfolding nodes_of_lot
    lot-nodes =
        cc (
          filter_agree_each (is_in_a_job p.dimensions l) (λ y. extends y l && ltb (length l) (length y)) (nodes p)
              (each-all _ (nodes p) test),
          nodes-walked p f,
          go l lot canonical lot-ranged (branch-open l branch) (parent-open l (branch-open l branch))
              (none-before-branch l branch),
        )
      where
        turn : (a b : Bool) → (a && b) ≡ (b && a)
        turn true true = refl
        turn true false = refl
        turn false true = refl
        turn false false = refl

        test : (y : List ℕ) → is_in_a_job p.dimensions l y ≡ (extends y l && ltb (length l) (length y))
        test y = cc (lot, front-extends (p.dimensions.m + 1) y l lot, turn (ltb (length l) (length y)) (extends y l))

        go : (l : List ℕ) → length l ≡ p.dimensions.m + 1 → is_canonical p.dimensions p.requirement l ≡ true
            → Ranged (p.dimensions.q ^ p.dimensions.m) l → is_expanded p l ≡ true → is_expanded p (parent l) ≡ true
            → ((d : List ℕ) → D d ≡ true → before d l ≡ true → ⊥)
            → filter (λ y. extends y l && ltb (length l) (length y))
            (through D (under T (p.dimensions.s + p.dimensions.t) []))
            ≡ through D (under T (p.dimensions.s + p.dimensions.t - length l) l)
        go [] h c r o' o n = absurd (omega arith)
        go (a ∷ l) h c r o' o n =
            nodes-below T (walked-law p f) a l (p.dimensions.s + p.dimensions.t - length (a ∷ l)) (omega arith) r
            (open-candidate (a ∷ l) c o) n o' (omega arith)

    -- they are those of the subtrees of its jobs
    pub lot-jobs : under T (p.dimensions.s + p.dimensions.t - length l) l
        ≡ flat_map (λ r. subtree T (p.dimensions.s + p.dimensions.t - length (l ++ r ∷ [])) (l ++ r ∷ []))
        (children_of (tree_of p) l)
    lot-jobs =
        let k : ℕ = p.dimensions.s + p.dimensions.t - length l - 1 in
        let e : p.dimensions.s + p.dimensions.t - length l ≡ suc k = omega arith in
        cc (
          e,
          under-step T (walked-law p f) l k (inr (branch-open l branch)),
          flat_same (λ r. subtree T k (l ++ r ∷ []))
              (λ r. subtree T (p.dimensions.s + p.dimensions.t - length (l ++ r ∷ [])) (l ++ r ∷ []))
              (λ r. ap (λ n. subtree T n (l ++ r ∷ []))
              (let z : k ≡ p.dimensions.s + p.dimensions.t - length (l ++ r ∷ []) = omega (
                arith,
                length-append l (r ∷ []),
              ) in z)) (children_of T l),
        )
      where
        flat_same : (g h : ℕ → List (List ℕ)) → ((r : ℕ) → g r ≡ h r) → (xs : List ℕ) → flat_map g xs ≡ flat_map h xs
        flat_same g h e [] = refl
        flat_same g h e (x ∷ xs) = cc (e x, flat_same g h e xs)

    -- the first complete allowed matrix of the lot is the first design in its jobs
    pub first-of-lot : p.least ≡ false
        → first_of_lot p l ≡ find D (under T (p.dimensions.s + p.dimensions.t - length l) l)
    unfolding first_of_lot
    first-of-lot plain =
        cc (
          find_agree (λ m. is_complete_allowed p m && is_in_a_job p.dimensions l m)
              (λ y. (extends y l && is_candidate T y) && D y) agree (prefixes p),
          find-filter (λ y. extends y l && is_candidate T y) D (prefixes p),
          go l lot canonical lot-ranged (branch-open l branch) (parent-open l (branch-open l branch)),
          cond-false (D l) _ _ short,
        )
      where
        short : D l ≡ false
        short = and_left _ _ (ne_eqb (length l) (p.dimensions.s + p.dimensions.t) (λ e. omega arith))

        full : (m : List ℕ) → D m ≡ true → ltb (p.dimensions.m + 1) (length m) ≡ true
        full m h = let e =
            eqb-true (length m) (p.dimensions.s + p.dimensions.t)
            (and_parts (eqb (length m) (p.dimensions.s + p.dimensions.t)) _ h).0 in lt-ltb _ _ (omega arith)

        turn : (a b c n : Bool) → (a ≡ true → c ≡ true) → (a ≡ true → n ≡ true) → (a && (n && b)) ≡ ((b && c) && a)
        turn true b c n h k =
            rw (h refl, k refl)
            (elim b as (λ z. (true && (true && z)) ≡ ((z && true) && true)) [ true ↦ refl | false ↦ refl ])
        turn false b c n h k = sym (and_right (b && c) false refl)

        agree : (m : List ℕ)
            → (is_complete_allowed p m && is_in_a_job p.dimensions l m) ≡ ((extends m l && is_candidate T m) && D m)
        agree m =
            cc (
              design-plain p plain m,
              front-extends (p.dimensions.m + 1) m l lot,
              turn (D m) (extends m l) (is_candidate T m) (ltb (p.dimensions.m + 1) (length m))
                  (λ e. design-candidate T (walked-law p f) m e) (full m),
            )

        go : (l : List ℕ) → length l ≡ p.dimensions.m + 1 → is_canonical p.dimensions p.requirement l ≡ true
            → Ranged (p.dimensions.q ^ p.dimensions.m) l → is_expanded p l ≡ true → is_expanded p (parent l) ≡ true
            → filter (λ y. extends y l && is_candidate T y) (prefixes p)
            ≡ l ∷ under T (p.dimensions.s + p.dimensions.t - length l) l
        go [] h c r o' o = absurd (omega arith)
        go (a ∷ l) h c r o' o =
            cc (
              all-from T (walked-law p f) a l (p.dimensions.s + p.dimensions.t - length (a ∷ l)) (omega arith) r
                  (open-candidate (a ∷ l) c o),
              cond-true (is_expanded p (a ∷ l)) _ _ o',
            )
