-- What is found at a prefix with its last row, and what is then the best so far.
use Rattle.std.proofs.Common.{◌≡◌, ℕ, ◌<◌, ◌+◌, true, false, ltb, List, [], ◌∷◌, ◌++◌, length, Option, Some, None}
use Rattle.std.proofs.Common.{◌∙◌, inl, inr, arith, length-append, ◌-◌}
use Rattle.std.proofs.lemmas.Bool.{cond-true, cond-false, cases_Bool, and_parts, and_from, and_left, and_right, eq-eqb}
use Rattle.std.proofs.lemmas.Bool.{le-ltb, lt-ltb, not-true, not-false, and_cases}
use Rattle.fx_designs.specs.Galois.{IsField}
use Rattle.fx_designs.specs.Problems.{Problem}
use Rattle.fx_designs.specs.Demands.{is_allowed}
use Rattle.fx_designs.specs.Canonical.{is_canonical}
use Rattle.fx_designs.specs.Nodes.{is_branch, last_row, word_of, Mark, Branch, Word, Worse}
use Rattle.fx_laws.specs.Trees.{tree_of, is_tree_design}
use Rattle.fx_tree.proofs.Extensions.{last_is}
use Rattle.fx_tree.specs.Ranked.{Ranked, is_counted, is_counted_through, Wins, Loses}
use Rattle.fx_tree.specs.Search.{ranked, is_expanded, search_tree, search_mark, is_beaten, IsBestAt}
use Rattle.fx_tree.proofs.Best.{clash}
use Rattle.fx_tree.proofs.Branches.{wins_branch, loses_branch, barred_best, beaten_best, better_best}
use Rattle.fx_tree.proofs.Patterns.{is-ranked}
use Rattle.fx_tree.proofs.SearchTree.{opens-least, opens-plain, mark-least, mark-plain, branch-ranked, design-plain}

pub last-row : (p : List ℕ) (r : ℕ) → last_row (p ++ r ∷ []) ≡ r
last-row p r =
    let e : length (p ++ r ∷ []) - 1 ≡ length p = omega (arith, length-append p (r ∷ [])) in
    cc (e, last_is p r)

-- nothing below it is walked, and this is its mark
pub record IsShut (p : Problem) (c : List ℕ) (found : Mark) : Type 0 where
  pub shut : is_expanded p c ≡ false
  pub mark : search_mark p c ≡ found

-- what is below it is walked
pub record IsOpen (p : Problem) (c : List ℕ) (r : ℕ) : Type 0 where
  pub is_expanded : is_expanded p c ≡ true
  pub mark : search_mark p c ≡ Branch r

module _ (p : Problem) (f : IsField p.dimensions.q) (q : List ℕ) (r : ℕ) where
  abbrev c : List ℕ
  c = q ++ r ∷ []

  abbrev x : Ranked
  x = ranked p

  -- a prefix that is not allowed
  pub barred-shut : is_allowed p.dimensions p.requirement c ≡ false → IsShut p c (Word r (word_of p c))
  barred-shut out = elim (cases_Bool p.least) [
    | inl e ↦ record {
      shut = opens-least p e c ∙ and_left _ _ out;
      mark = cc (mark-least p e c, cond-false (is_allowed p.dimensions p.requirement c) _ _ out, last-row q r);
    }
    | inr e ↦ record {
      shut = opens-plain p e c ∙ out;
      mark = cc (mark-plain p e c, cond-false (is_allowed p.dimensions p.requirement c) _ _ out, last-row q r);
    }
  ]

  pub barred-best : (o : Option (List ℕ)) → is_allowed p.dimensions p.requirement c ≡ false
      → IsBestAt p (is_counted x c) o → IsBestAt p (is_counted_through x c) o
  barred-best o out h = record { first = λ e. barred_best x (is-ranked p f) c o (h.first e) out }

  worse-mark : p.least ≡ true → is_allowed p.dimensions p.requirement c ≡ true → is_branch p c ≡ false
      → search_mark p c ≡ Worse r
  worse-mark e allowed out =
      cc (
        mark-least p e c,
        cond-true (is_allowed p.dimensions p.requirement c) _ _ allowed,
        cond-false (is_branch p c) _ _ out,
        last-row q r,
      )

  loses : (o : Option (List ℕ)) → is_beaten p o c ≡ true → (p.least ≡ true) × Loses x c o
  loses None h = absurd (cc h)
  loses (Some b) h = let parts = and_parts p.least _ h in (parts.0, not-true _ parts.1)

  -- an allowed prefix that the best so far beats
  pub beaten-shut : (o : Option (List ℕ)) → is_beaten p o c ≡ true → is_allowed p.dimensions p.requirement c ≡ true
      → IsBestAt p (is_counted x c) o → IsShut p c (Worse r)
  beaten-shut o beaten allowed h =
      let lost = loses o beaten in
      let out : is_branch p c ≡ false =
      branch-ranked p lost.0 c ∙ loses_branch x (is-ranked p f) c o (h.first lost.0) lost.1 in
      record { shut = opens-least p lost.0 c ∙ out; mark = worse-mark lost.0 allowed out }

  pub beaten-best : (o : Option (List ℕ)) → is_beaten p o c ≡ true → IsBestAt p (is_counted x c) o
      → IsBestAt p (is_counted_through x c) o
  beaten-best o beaten h = record { first = λ e. beaten_best x (is-ranked p f) c o (h.first e) (loses o beaten).1 }

  wins : (o : Option (List ℕ)) → p.least ≡ true → is_beaten p o c ≡ false → Wins x c o
  wins None e h = tt
  wins (Some b) e h = elim (and_cases _ _ h) [ inl out ↦ clash p.least e out | inr k ↦ not-false _ k ]

  -- an allowed prefix that is not whole and not beaten
  pub open-walked : (o : Option (List ℕ)) → is_beaten p o c ≡ false → is_allowed p.dimensions p.requirement c ≡ true
      → length c < p.dimensions.s + p.dimensions.t → IsBestAt p (is_counted x c) o → IsOpen p c r
  open-walked o unbeaten allowed part h = elim (cases_Bool p.least) [
    | inl e ↦
        let branch : is_branch p c ≡ true =
        branch-ranked p e c ∙ wins_branch x (is-ranked p f) c o (h.first e) allowed part (wins o e unbeaten) in
        record {
          is_expanded = opens-least p e c ∙ branch;
          mark = cc (
            mark-least p e c,
            cond-true (is_allowed p.dimensions p.requirement c) _ _ allowed,
            cond-true (is_branch p c) _ _ branch,
            last-row q r,
          );
        }
    | inr e ↦ record {
      is_expanded = opens-plain p e c ∙ allowed;
      mark = cc (
        mark-plain p e c,
        cond-true (is_allowed p.dimensions p.requirement c) _ _ allowed,
        cond-true (ltb (length c) (p.dimensions.s + p.dimensions.t)) _ _ (lt-ltb _ _ part),
        last-row q r,
      );
    }
  ]

  module _ (whole : length c ≡ p.dimensions.s + p.dimensions.t)
      (canonical : is_canonical p.dimensions p.requirement c ≡ true)
      (allowed : is_allowed p.dimensions p.requirement c ≡ true) where
    design : is_tree_design (tree_of p) c ≡ true
    design = and_from _ _ (eq-eqb (length c) (p.dimensions.s + p.dimensions.t) whole) (and_from _ _ canonical allowed)

    -- a whole prefix, where a least pattern is asked
    pub whole-shut : p.least ≡ true → IsShut p c (Worse r)
    whole-shut e =
        let out : is_branch p c ≡ false =
        and_right _ _ (and_left _ _ (le-ltb (length c) (p.dimensions.s + p.dimensions.t) (omega arith))) in
        record { shut = opens-least p e c ∙ out; mark = worse-mark e allowed out }

    pub better-best : (o : Option (List ℕ)) → is_beaten p o c ≡ false → IsBestAt p (is_counted x c) o
        → IsBestAt p (is_counted_through x c) (Some c)
    better-best o unbeaten h =
        record { first = λ e. better_best x (is-ranked p f) c o (h.first e) design (wins o e unbeaten) }

    -- a whole prefix, where none is asked: the first design
    pub first-design : p.least ≡ false → (is_tree_design (search_tree p) c ≡ true) × (search_mark p c ≡ Worse r)
    first-design e = (
      design-plain p e c ∙ design,
      cc (
        mark-plain p e c,
        cond-true (is_allowed p.dimensions p.requirement c) _ _ allowed,
        cond-false (ltb (length c) (p.dimensions.s + p.dimensions.t)) _ _ (le-ltb _ _ (omega arith)),
        last-row q r,
      ),
    )
