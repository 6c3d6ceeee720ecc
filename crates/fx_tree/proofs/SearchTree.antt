-- The tree that a search walks: its nodes and marks are those of the problem, with a least pattern and without.
use Rattle.std.proofs.Common.{◌≡◌, ℕ, ◌+◌, Bool, true, false, not, ◌&&◌, ◌||◌, eqb, List, [], ◌∷◌, ◌++◌, map}
use Rattle.std.proofs.Common.{length, refl, sym, ◌∙◌, inl, inr, arith, map-id}
use Rattle.std.proofs.lemmas.Bool.{cond-true, cond-false, cases_Bool, and_left, and_right, or_left, eqb-true, le-ltb}
use mathlib.Core.Bool.{and-true, and_assoc}
use Rattle.fx_base.proofs.Lists.{each-all, filter_agree_each, map_agree, list_any_agree}
use Rattle.fx_designs.specs.Galois.{IsField}
use Rattle.fx_designs.specs.Problems.{Problem}
use Rattle.fx_designs.specs.Demands.{is_allowed}
use Rattle.fx_designs.specs.Patterns.{pattern_of, is_less}
use Rattle.fx_designs.specs.Answers.{before, prefixes, answer}
use Rattle.fx_designs.specs.Nodes.{parent, counts, excludes, is_branch, is_complete_allowed, is_node, is_not_after}
use Rattle.fx_designs.specs.Nodes.{nodes, marks, mark_of}
use Rattle.fx_laws.specs.Trees.{IsTree, tree_of, is_tree_design}
use Rattle.fx_laws.specs.Walks.{through, is_candidate, under, mark_at}
use Rattle.fx_laws.proofs.Through.{through-none}
use Rattle.fx_laws.proofs.Nodes.{nodes_are, marks_are}
use Rattle.fx_tree.proofs.Nodes.{is-tree, nodes-same, marks-same}
use Rattle.fx_tree.specs.Ranked.{is_counted, is_ranked_branch}
use Rattle.fx_tree.specs.Search.{ranked, is_expanded, search_tree, search_mark}
use Rattle.fx_tree.proofs.Branches.{branches_law}
use Rattle.fx_tree.proofs.Place.{any-never}
use Rattle.fx_tree.proofs.Patterns.{is-ranked, counts-same}

pub through-agree : (D E : List ℕ → Bool) → ((p : List ℕ) → D p ≡ E p) → (xs : List (List ℕ))
    → through D xs ≡ through E xs
through-agree D E h [] = refl
through-agree D E h (x ∷ xs) = cc (h x, through-agree D E h xs)

module _ (p : Problem) where
  -- below a branch, where a least pattern is asked
  pub opens-least : p.least ≡ true → (rows : List ℕ) → is_expanded p rows ≡ is_branch p rows
  unfolding is_expanded
  opens-least e rows = cond-true p.least _ _ e

  pub opens-plain : p.least ≡ false → (rows : List ℕ) → is_expanded p rows ≡ is_allowed p.dimensions p.requirement rows
  unfolding is_expanded
  opens-plain e rows = cond-false p.least _ _ e

  pub mark-least : p.least ≡ true → (rows : List ℕ) → search_mark p rows ≡ mark_of p rows
  unfolding search_mark
  mark-least e rows = cond-true p.least _ _ e

  pub mark-plain : p.least ≡ false → (rows : List ℕ) → search_mark p rows ≡ mark_at (tree_of p) rows
  unfolding search_mark
  mark-plain e rows = cond-false p.least _ _ e

  -- a branch in either wording
  pub branch-ranked : p.least ≡ true → (rows : List ℕ) → is_branch p rows ≡ is_ranked_branch (ranked p) rows
  branch-ranked e rows =
      cc (list_any_agree (λ matrix. is_complete_allowed p matrix && excludes p matrix rows)
      (λ d. is_counted (ranked p) rows d && not ((ranked p).less rows d)) one (prefixes p))
    where
      one : (d : List ℕ)
          → (is_complete_allowed p d && excludes p d rows)
          ≡ (is_counted (ranked p) rows d && not ((ranked p).less rows d))
      one d =
          cc (
            cond-true p.least
                (counts p.dimensions d rows && not (is_less (pattern_of p.dimensions rows) (pattern_of p.dimensions d)))
                (before d rows) e,
            and_assoc (is_complete_allowed p d) (counts p.dimensions d rows)
                (not (is_less (pattern_of p.dimensions rows) (pattern_of p.dimensions d))),
            counts-same p d rows,
          )

  -- where a least pattern is asked, no whole matrix is a branch
  pub no-design : p.least ≡ true → (d : List ℕ) → is_tree_design (search_tree p) d ≡ false
  no-design e d =
      elim (cases_Bool (eqb (length d) (p.dimensions.s + p.dimensions.t))) [
        | inr part ↦ and_left _ _ part
        | inl whole ↦
            let size = eqb-true (length d) (p.dimensions.s + p.dimensions.t) whole in
            and_right _ _
            (and_right _ _
            (opens-least e d ∙ and_right _ _
            (and_left _ _ (le-ltb (length d) (p.dimensions.s + p.dimensions.t) (omega arith)))))
      ]

  -- where none is asked, the designs are the complete allowed matrices
  pub design-plain : p.least ≡ false → (d : List ℕ) → is_tree_design (search_tree p) d ≡ is_tree_design (tree_of p) d
  design-plain e d =
      cc (opens-plain e d)

  pub candidate-plain : p.least ≡ false → (d : List ℕ) → is_candidate (search_tree p) d ≡ is_candidate (tree_of p) d
  candidate-plain e d =
      cc (opens-plain e (parent d))

  pub under-plain : p.least ≡ false → (k : ℕ) (c : List ℕ) → under (search_tree p) k c ≡ under (tree_of p) k c
  unfolding under
  under-plain e k c =
      filter_agree_each (is_candidate (search_tree p)) (is_candidate (tree_of p)) _
      (each-all _ _ (λ d. candidate-plain e d))

  candidate-least : p.least ≡ true → (rows : List ℕ) → is_node p rows ≡ is_candidate (search_tree p) rows
  candidate-least e rows =
      cc (
        or_left p.least (is_not_after (answer p) rows) e,
        and-true (eqb (length (parent rows)) 0 || is_branch p (parent rows)),
        opens-least e (parent rows),
      )

  module _ (f : IsField p.dimensions.q) where
    pub walked-law : IsTree (search_tree p)
    walked-law = record {
      canonical = (is-tree p f).canonical;
      allowed = λ rows r h. elim (cases_Bool p.least) [
        | inl e ↦
            let here : is_ranked_branch (ranked p) (rows ++ r ∷ []) ≡ true =
            cc (branch-ranked e (rows ++ r ∷ []), opens-least e (rows ++ r ∷ []), h) in
            opens-least e rows ∙ branch-ranked e rows ∙ (branches_law (ranked p) (is-ranked p f)).allowed rows r here
        | inr e ↦ opens-plain e rows ∙ (is-tree p f).allowed rows r (sym (opens-plain e (rows ++ r ∷ [])) ∙ h)
      ];
    }

    -- the nodes of the problem
    pub nodes-walked : nodes p
        ≡ through (is_tree_design (search_tree p)) (under (search_tree p) (p.dimensions.s + p.dimensions.t) [])
    unfolding nodes under
    nodes-walked = elim (cases_Bool p.least) [
      | inl e ↦
          cc (
            filter_agree_each (is_node p) (is_candidate (search_tree p)) (prefixes p)
                (each-all _ (prefixes p) (λ rows. candidate-least e rows)),
            map-id (prefixes p),
            through-none (is_tree_design (search_tree p)) _
                (any-never (is_tree_design (search_tree p)) (λ d. no-design e d) _),
          )
      | inr e ↦
          cc (
            nodes-same p f e,
            nodes_are (tree_of p) (is-tree p f),
            under-plain e (p.dimensions.s + p.dimensions.t) [],
            through-agree (is_tree_design (search_tree p)) (is_tree_design (tree_of p)) (λ d. design-plain e d) _,
          )
    ]

    -- and their marks
    pub marks-walked : marks p ≡ map (search_mark p) (nodes p)
    unfolding marks
    marks-walked = elim (cases_Bool p.least) [
      | inl e ↦ map_agree (mark_of p) (search_mark p) (λ rows. sym (mark-least e rows)) (nodes p)
      | inr e ↦
          cc (
            marks-same p f e,
            marks_are (tree_of p) (is-tree p f),
            nodes-same p f e,
            map_agree (mark_at (tree_of p)) (search_mark p) (λ rows. sym (mark-plain e rows)) (nodes p),
          )
    ]
