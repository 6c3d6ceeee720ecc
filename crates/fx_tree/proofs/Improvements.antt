-- The best of a lot, from what its jobs tell.
use Rattle.std.proofs.Common.{◌≡◌, ℕ, ◌<◌, ◌+◌, Bool, true, ◌&&◌, List, length, Option, Some, None, sym, subst, inl}
use Rattle.std.proofs.Common.{inr}
use Rattle.std.proofs.lemmas.Bool.{cases_Bool, cond-true, cond-false, false_from_ne_true}
use Rattle.fx_designs.specs.Galois.{IsField}
use Rattle.fx_designs.specs.Problems.{Problem}
use Rattle.fx_laws.specs.Trees.{tree_of, is_tree_design}
use Rattle.fx_designs.specs.Jobs.{is_of_job, best_of, best_before, improvement, best_inside}
use Rattle.fx_tree.specs.Ranked.{Ranked, IsRanked, IsFirstLeast, IsPartBest, extends}
use Rattle.fx_tree.specs.Search.{ranked}
use Rattle.fx_tree.proofs.Best.{clash, same_tests}
use Rattle.fx_tree.proofs.Patterns.{is-ranked}
use Rattle.fx_tree.proofs.Fronts.{front-extends}
use Rattle.fx_tree.proofs.Firsts.{best-least}

module _ (p : Problem) (f : IsField p.dimensions.q) (some : 0 < p.dimensions.s + p.dimensions.t)
    (least : p.least ≡ true) (j : List ℕ) (job : length j ≡ p.dimensions.m + 2) where
  abbrev x : Ranked
  x = ranked p

  abbrev law : IsRanked (ranked p)
  law = is-ranked p f

  abbrev from : List ℕ → Bool
  from d = is_tree_design (tree_of p) d && extends d j

  own : IsFirstLeast x from (best_of p (is_of_job p.dimensions j))
  own = same_tests x (λ d. is_tree_design (tree_of p) d && is_of_job p.dimensions j d) from
      (λ d. cc (front-extends (p.dimensions.m + 2) d j job)) _
      (best-least p f some least (is_of_job p.dimensions j))

  -- what a job tells is its best, or nothing where nothing of it is better
  pub told-part : IsPartBest x from (best_before p j) (best_inside p j)
  unfolding best_inside
  told-part = go (best_before p j) (best_of p (is_of_job p.dimensions j)) own
    where
      go : (start o : Option (List ℕ)) → IsFirstLeast x from o
          → IsPartBest x from start (improvement p.dimensions start o)
      go None None h = h
      go (Some b) None h = λ d z. absurd (h d z)
      go None (Some c) h = h
      go (Some b) (Some c) h = elim (cases_Bool (x.less c b)) [
        | inl a ↦ subst (IsPartBest x from (Some b)) (sym (cond-true (x.less c b) (Some c) None a)) (h, a)
        | inr a ↦ subst (IsPartBest x from (Some b)) (sym (cond-false (x.less c b) (Some c) None a))
            (λ d z. false_from_ne_true _ (λ v. clash (x.less d c) (law.apart d b c v a) (h.1 d z)))
      ]
