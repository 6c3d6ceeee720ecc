-- The nodes and the marks inside a job, and those of a problem in its jobs.
use Rattle.std.proofs.Common.{◌≡◌, ℕ, zero, suc, ◌≤◌, ◌+◌, ◌-◌, ◌^◌, Bool, true, false, not, ◌&&◌, ◌||◌}
use Rattle.std.proofs.Common.{eqb, ltb, List, [], ◌∷◌, ◌++◌, map, length, take, None, refl, sym, subst, ap, ap₂, ◌∙◌}
use Rattle.std.proofs.Common.{inl, inr, arith, append-nil, length-append, lt-ltb}
use Rattle.std.specs.List.{filter, find, list_any, AllByRecursion}
use Rattle.std.proofs.lemmas.Bool.{cond-true, cond-false, cases_Bool, and_parts, and_from, and_left, and_right, or_left}
use Rattle.std.proofs.lemmas.Bool.{or_right, eqb-true, false_from_ne_true, not_from_false, not-true}
use Rattle.std.proofs.lemmas.List.{take-append-le, take_all}
use Rattle.fx_base.proofs.Lists.{each-all, filter_agree_each, find_agree, find-filter, list_any_agree}
use Rattle.fx_base.proofs.Members.{has-each}
use Rattle.fx_designs.specs.Galois.{IsField}
use Rattle.fx_designs.specs.Vectors.{same}
use Rattle.fx_designs.specs.Problems.{Dimensions, Problem}
use Rattle.fx_designs.specs.Demands.{is_allowed}
use Rattle.fx_designs.specs.Canonical.{is_canonical}
use Rattle.fx_designs.specs.Patterns.{pattern_of, is_less}
use Rattle.fx_designs.specs.Answers.{before, prefixes}
use Rattle.fx_designs.specs.Nodes.{parent, lot_of, job_of, counts, excludes, is_branch, is_complete_allowed}
use Rattle.fx_designs.specs.Nodes.{is_not_after}
use Rattle.fx_laws.specs.Trees.{Tree, tree_of, is_tree_design}
use Rattle.fx_laws.specs.Walks.{through, is_candidate, subtree, mark_at}
use Rattle.fx_laws.proofs.Candidates.{parent-append}
use Rattle.fx_laws.proofs.Nodes.{design-candidate, map_same}
use Rattle.fx_designs.specs.Jobs.{is_of_job, is_of_earlier_lot, excludes_inside, is_branch_inside, first_inside}
use Rattle.fx_designs.specs.Jobs.{is_node_inside, nodes_inside, mark_inside, marks_inside}
use Rattle.fx_laws.proofs.Weights.{same-self}
use Rattle.fx_tree.specs.Ranked.{extends}
use Rattle.fx_tree.specs.Search.{ranked, is_expanded, search_tree, search_mark}
use Rattle.fx_tree.specs.Inside.{is_own, is_branch_in, is_node_in, nodes_in}
use Rattle.fx_tree.proofs.Best.{clash}
use Rattle.fx_tree.proofs.Branches.{design-in}
use Rattle.fx_tree.proofs.Patterns.{is-ranked}
use Rattle.fx_tree.proofs.Place.{split_of, extends-append, any-never}
use Rattle.fx_tree.proofs.Lots.{Ranged}
use Rattle.fx_tree.proofs.Fronts.{front-extends, front-before, before-front, ranged-all}
use Rattle.fx_tree.proofs.Inside.{nodes_in_are, after_is}
use Rattle.fx_tree.proofs.Parts.{all-from}
use Rattle.fx_tree.proofs.SearchTree.{opens-least, opens-plain, mark-least, mark-plain, no-design, design-plain}
use Rattle.fx_tree.proofs.SearchTree.{walked-law}

find-never : (D : List ℕ → Bool) → ((x : List ℕ) → D x ≡ false) → (xs : List (List ℕ)) → find D xs ≡ None
find-never D h [] = refl
find-never D h (x ∷ xs) = cond-false (D x) _ _ (h x) ∙ find-never D h xs

-- the same choice of what counts inside a job, by truth tables
least-table : (a s j n : Bool) → (((a && not s) || j) && (a && n)) ≡ ((a && not (s && not j)) && n)
least-table true true true n = refl
least-table true true false n = refl
least-table true false true n = refl
least-table true false false n = refl
least-table false s true n = refl
least-table false s false n = refl

module _ (p : Problem) (f : IsField p.dimensions.q) (j : List ℕ) (job : length j ≡ p.dimensions.m + 2)
    (room : p.dimensions.m + 2 ≤ p.dimensions.s + p.dimensions.t) where
  abbrev d : Dimensions
  d = p.dimensions

  abbrev T : Tree
  T = search_tree p

  abbrev D : List ℕ → Bool
  D = is_tree_design (search_tree p)

  of-job : (rows : List ℕ) → is_of_job d j rows ≡ extends rows j
  of-job rows = front-extends (d.m + 2) rows j job

  whole : (m : List ℕ) → is_complete_allowed p m ≡ true → length m ≡ d.s + d.t
  whole m h =
      eqb-true (length m) (d.s + d.t)
      (and_parts (eqb (length m) (d.s + d.t)) (is_canonical d p.requirement m && is_allowed d p.requirement m) h).0

  -- an earlier lot: before the rows, and not in their lot
  earlier : (m q : List ℕ) → is_complete_allowed p m ≡ true → extends q j ≡ true
      → is_of_earlier_lot d j m ≡ (before m q && not (same (lot_of d m) (lot_of d q)))
  earlier m q h e =
      let s = split_of q j e in
      let len = whole m h in
      let long : length q ≡ length j + length s.0 = ap length s.1 ∙ length-append j s.0 in
      let lots : take (d.m + 1) q ≡ take (d.m + 1) j =
      cc (s.1, take-append-le (d.m + 1) j s.0 (omega arith)) in
      cc (lt-ltb d.m (length m) (omega arith), lots, front-before (d.m + 1) m q (omega arith) (omega arith))

  jobs-of : (m q : List ℕ) → extends q j ≡ true → same (job_of d m) (job_of d q) ≡ is_of_job d j m
  jobs-of m q e =
      let s = split_of q j e in
      ap (same (job_of d m))
      (cc (s.1, take-append-le (d.m + 2) j s.0 (omega arith), take_all (d.m + 2) j (omega arith)))

  module _ (least : p.least ≡ true) where
    excludes-least : (m q : List ℕ) → extends q j ≡ true
        → (is_complete_allowed p m && excludes_inside p j m q) ≡ (is_complete_allowed p m && excludes p m q)
    excludes-least m q e =
        elim (cases_Bool (is_complete_allowed p m)) [
          | inr out ↦ cc (and_left _ _ out)
          | inl h ↦
              let n : Bool = not (is_less (pattern_of d q) (pattern_of d m)) in
              let s = split_of q j e in
              let long : length q ≡ length j + length s.0 = ap length s.1 ∙ length-append j s.0 in
              let some : ltb d.m (length q) ≡ true = lt-ltb d.m (length q) (omega arith) in
              cc (
                earlier m q h e,
                least,
                jobs-of m q e,
                least-table (before m q) (same (lot_of d m) (lot_of d q)) (same (job_of d m) (job_of d q)) n,
                some,
                cond-true p.least (counts d m q && n) (before m q) least,
              )
        ]

    -- inside a job a branch is a branch of the problem
    pub branch-least : (q : List ℕ) → extends q j ≡ true → is_branch_inside p j q ≡ is_branch p q
    branch-least q e = cc (list_any_agree (λ m. is_complete_allowed p m && excludes_inside p j m q)
        (λ m. is_complete_allowed p m && excludes p m q) (λ m. excludes-least m q e) (prefixes p))

    own-never : (m : List ℕ) → is_own T j m ≡ false
    own-never m = and_left _ _ (no-design p least m)

    branch-in-least : (q : List ℕ) → is_branch_in T j q ≡ is_branch p q
    branch-in-least q =
        let none : list_any (λ m. is_own T j m && before m q) (prefixes p) ≡ false =
        any-never _ (λ m. and_left _ _ (own-never m)) (prefixes p) in
        cc (opens-least p least q, none, fold (is_allowed d p.requirement q) (ltb (length q) (d.s + d.t)) _)
      where
        fold : (a b c : Bool) → ((a && (b && c)) && (b && true)) ≡ (a && (b && c))
        fold true true true = refl
        fold true true false = refl
        fold true false c = refl
        fold false b c = refl

    pub same-branch-least : (q : List ℕ) → extends q j ≡ true → is_branch_inside p j q ≡ is_branch_in T j q
    same-branch-least q e = branch-least q e ∙ sym (branch-in-least q)

    last-least : (rows : List ℕ)
        → (p.least || is_not_after (first_inside p j) rows) ≡ is_not_after (find (is_own T j) (prefixes p)) rows
    last-least rows =
        cc (or_left _ _ least, find-never (is_own T j) own-never (prefixes p))

  module _ (plain : p.least ≡ false) (branch : is_branch p (lot_of d j) ≡ true) where
    -- no complete allowed matrix precedes the lot
    none-before : (m : List ℕ) → is_complete_allowed p m ≡ true → before m (lot_of d j) ≡ false
    none-before m h =
        let parts =
        and_parts (ltb (length (lot_of d j)) (d.s + d.t)) _
        (and_parts (is_allowed d p.requirement (lot_of d j)) _ branch).1 in
        let none : list_any (λ m. is_complete_allowed p m && excludes p m (lot_of d j)) (prefixes p) ≡ false =
        not-true _ parts.1 in
        let one : (is_complete_allowed p m && excludes p m (lot_of d j)) ≡ false =
        has-each (λ m. (is_complete_allowed p m && excludes p m (lot_of d j)) ≡ false) m (prefixes p)
        (none-each (λ m. is_complete_allowed p m && excludes p m (lot_of d j)) (prefixes p) none)
        (design-in (ranked p) (is-ranked p f) m h (omega arith)) in
        let is : excludes p m (lot_of d j) ≡ before m (lot_of d j) =
        cond-false p.least (counts d m (lot_of d j) && not (is_less (pattern_of d (lot_of d j)) (pattern_of d m)))
        (before m (lot_of d j)) plain in
        false_from_ne_true _
        (λ e. clash (is_complete_allowed p m && excludes p m (lot_of d j)) (and_from _ _ h (is ∙ e)) one)
      where
        none-each : (g : List ℕ → Bool) (xs : List (List ℕ)) → list_any g xs ≡ false
            → AllByRecursion (λ y. g y ≡ false) xs
        none-each g [] h = tt
        none-each g (y ∷ ys) h = elim (cases_Bool (g y)) [
          | inl a ↦ clash (list_any g (y ∷ ys)) (or_left _ _ a) h
          | inr a ↦ (a, none-each g ys (cc (a, h)))
        ]

    -- so none is of an earlier lot
    none-earlier : (m : List ℕ) → is_complete_allowed p m ≡ true → is_of_earlier_lot d j m ≡ false
    none-earlier m h =
        let len = whole m h in
        and_right _ _ (before-front (d.m + 1) m (lot_of d j) (lot-short (d.m + 1) j) (omega arith) ∙ none-before m h)
      where
        lot-short : (k : ℕ) (rows : List ℕ) → length (take k rows) ≤ k
        lot-short zero rows = omega arith
        lot-short (suc k) [] = omega arith
        lot-short (suc k) (a ∷ rows) = let z = lot-short k rows in omega arith

    excludes-plain : (m q : List ℕ)
        → (is_complete_allowed p m && excludes_inside p j m q) ≡ (is_own T j m && before m q)
    excludes-plain m q =
        elim (cases_Bool (is_complete_allowed p m)) [
          | inr out ↦ and_left _ _ out ∙ sym (and_left _ _ (and_left _ _ (design-plain p plain m ∙ out)))
          | inl h ↦
              ap₂ (λ a b. a && b) h
              (cc (none-earlier m h, or_left _ _ (not_from_false _ plain)))
              ∙ order (is_of_job d j m) (before m q)
              ∙ ap₂ (λ a b. (a && b) && before m q) (sym (design-plain p plain m ∙ h)) (of-job m)
        ]
      where
        order : (a b : Bool) → (true && ((false || a) && (b && true))) ≡ ((true && a) && b)
        order true true = refl
        order true false = refl
        order false b = refl

    pub same-branch-plain : (q : List ℕ) → is_branch_inside p j q ≡ is_branch_in T j q
    same-branch-plain q = cc (
      opens-plain p plain q,
      list_any_agree (λ m. is_complete_allowed p m && excludes_inside p j m q) (λ m. is_own T j m && before m q)
          (λ m. excludes-plain m q) (prefixes p),
    )

    last-plain : (rows : List ℕ)
        → (p.least || is_not_after (first_inside p j) rows) ≡ is_not_after (find (is_own T j) (prefixes p)) rows
    unfolding first_inside
    last-plain rows =
        cc (
          or-false plain,
          find_agree (λ m. is_complete_allowed p m && is_of_job d j m) (is_own T j)
              (λ m. ap₂ (λ a b. a && b) (sym (design-plain p plain m)) (of-job m)) (prefixes p),
        )
      where
        or-false : {a b : Bool} → a ≡ false → (a || b) ≡ b
        or-false e = rw e refl

  module _ (canonical : is_canonical d p.requirement j ≡ true) (branch : is_branch p (lot_of d j) ≡ true) where
    same-branch : (q : List ℕ) → extends q j ≡ true → is_branch_inside p j q ≡ is_branch_in T j q
    same-branch q e =
        elim (cases_Bool p.least) [ inl h ↦ same-branch-least h q e | inr h ↦ same-branch-plain h branch q ]

    same-last : (rows : List ℕ)
        → (p.least || is_not_after (first_inside p j) rows) ≡ is_not_after (find (is_own T j) (prefixes p)) rows
    same-last rows = elim (cases_Bool p.least) [ inl h ↦ last-least h rows | inr h ↦ last-plain h branch rows ]

    node-same : (rows : List ℕ) → is_node_inside p j rows ≡ is_node_in T j rows
    node-same rows =
        elim (cases_Bool (extends rows j)) [
          | inr out ↦ and_left _ _ (of-job rows ∙ out) ∙ sym (and_left _ _ out)
          | inl e ↦ cc (of-job rows, up (split_of rows j e).0 (split_of rows j e).1, same-last rows)
        ]
      where
        up : (s : List ℕ) → rows ≡ j ++ s
            → (same rows j || is_branch_inside p j (parent rows)) ≡ (same rows j || is_branch_in T j (parent rows))
        up [] e =
            let own : same rows j ≡ true = cc (e, append-nil j, same-self j) in
            cc (or_left _ _ own)
        up (r ∷ s) e =
            cc (same-branch (parent rows)
            (subst (λ l. extends l j ≡ true) (sym (ap parent e ∙ parent-append j r s))
            (extends-append j (parent (r ∷ s)))))

    pub inside-in : nodes_inside p j ≡ nodes_in T j
    unfolding nodes_inside nodes_in
    inside-in = filter_agree_each (is_node_inside p j) (is_node_in T j) (prefixes p) (each-all _ (prefixes p) node-same)

    pub job-ranged : Ranged (d.q ^ d.m) j
    unfolding is_canonical
    job-ranged = ranged-all (d.q ^ d.m) j (and_parts _ _ (and_parts _ _ canonical).1).0

    -- the nodes inside a job are the candidates from it on, through its first design
    pub nodes-inside : nodes_inside p j ≡ through D (subtree T (d.s + d.t - length j) j)
    nodes-inside = inside-in ∙ go j job canonical job-ranged
      where
        go : (l : List ℕ) → length l ≡ d.m + 2 → is_canonical d p.requirement l ≡ true → Ranged (d.q ^ d.m) l
            → nodes_in T l ≡ through D (subtree T (d.s + d.t - length l) l)
        go [] h c r = absurd (omega arith)
        go (a ∷ l) h c r = nodes_in_are T (walked-law p f) a l (d.s + d.t - length (a ∷ l)) (omega arith) c r

    -- and their marks are those that a search makes
    pub marks-inside : marks_inside p j ≡ map (search_mark p) (nodes_inside p j)
    unfolding marks_inside nodes_inside
    marks-inside = map_same (mark_inside p j) (search_mark p) (is_node_inside p j) one (prefixes p)
      where
        plain-mark : (rows : List ℕ) → p.least ≡ false → is_node_in T j rows ≡ true → (b : Bool)
            → is_allowed d p.requirement rows ≡ b → mark_inside p j rows ≡ mark_at (tree_of p) rows
        plain-mark rows h node false a =
            cc (cond-false (is_allowed d p.requirement rows) _ _ a)
        plain-mark rows h node true a =
            let last =
            (and_parts (same rows j || is_branch_in T j (parent rows)) _
            (and_parts (is_canonical d p.requirement rows) _ (and_parts (extends rows j) _ node).1).1).1 in
            let none : list_any (λ m. is_own T j m && before m rows) (prefixes p) ≡ false = seen-none j job rows last in
            let is : is_branch_inside p j rows ≡ ltb (length rows) (d.s + d.t) =
            cc (same-branch-plain h branch rows, opens-plain p h rows, a, none, unit (ltb (length rows) (d.s + d.t))) in
            cc (cond-true (is_allowed d p.requirement rows) _ _ a, is)
          where
            unit : (a : Bool) → (true && (a && true)) ≡ a
            unit true = refl
            unit false = refl

            seen-none : (l : List ℕ) → length l ≡ d.m + 2 → (rows : List ℕ)
                → is_not_after (find (is_own T l) (prefixes p)) rows ≡ true
                → list_any (λ m. is_own T l m && before m rows) (prefixes p) ≡ false
            seen-none [] h rows e = absurd (omega arith)
            seen-none (a ∷ l) h rows e = not-true _ (sym (after_is T (walked-law p f) a l rows) ∙ e)

        one : (rows : List ℕ) → is_node_inside p j rows ≡ true → mark_inside p j rows ≡ search_mark p rows
        one rows h = elim (cases_Bool p.least) [
          | inl e ↦
              let own : extends rows j ≡ true = sym (of-job rows) ∙ (and_parts (is_of_job d j rows) _ h).0 in
              cc (branch-least e rows own, mark-least p e rows)
          | inr e ↦ plain-mark rows e (sym (node-same rows) ∙ h) (is_allowed d p.requirement rows) refl ∙ sym
              (mark-plain p e rows)
        ]

    -- the first complete allowed matrix of the job is the first design from it on
    pub first-inside : p.least ≡ false → is_expanded p (parent j) ≡ true
        → first_inside p j ≡ find D (subtree T (d.s + d.t - length j) j)
    unfolding first_inside
    first-inside plain open' =
        cc (
          find_agree (λ m. is_complete_allowed p m && is_of_job d j m) (λ y. (extends y j && is_candidate T y) && D y)
              agree (prefixes p),
          find-filter (λ y. extends y j && is_candidate T y) D (prefixes p),
          go j job canonical job-ranged open',
        )
      where
        turn : (a b c : Bool) → (a ≡ true → c ≡ true) → (a && b) ≡ ((b && c) && a)
        turn true true c h = sym (cc (h refl))
        turn true false c h = refl
        turn false true c h = sym (and_right c false refl)
        turn false false c h = refl

        agree : (m : List ℕ) → (is_complete_allowed p m && is_of_job d j m) ≡ ((extends m j && is_candidate T m) && D m)
        agree m = cc (
          design-plain p plain m,
          of-job m,
          turn (D m) (extends m j) (is_candidate T m) (λ e. design-candidate T (walked-law p f) m e),
        )

        go : (l : List ℕ) → length l ≡ d.m + 2 → is_canonical d p.requirement l ≡ true → Ranged (d.q ^ d.m) l
            → is_expanded p (parent l) ≡ true
            → filter (λ y. extends y l && is_candidate T y) (prefixes p) ≡ subtree T (d.s + d.t - length l) l
        go [] h c r o = absurd (omega arith)
        go (a ∷ l) h c r o =
            all-from T (walked-law p f) a l (d.s + d.t - length (a ∷ l)) (omega arith) r
            (and_from _ _ c (or_right _ _ o))
