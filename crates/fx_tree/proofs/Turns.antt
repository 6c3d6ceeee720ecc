-- The jobs of a lot, one after another: each begins with the best of the earlier lots, and the better of all is kept.
use Rattle.std.proofs.Common.{◌≡◌, ℕ, ◌<◌, ◌+◌, Bool, true, false, ◌&&◌, ◌||◌, ltb, List, [], ◌∷◌, ◌++◌, length, take}
use Rattle.std.proofs.Common.{get_or, Option, Some, refl, sym, ap, ◌∙◌, ◌⊎◌, inl, inr, ⊎_elim, append_assoc}
use Rattle.std.specs.List.{list_any}
use Rattle.std.proofs.lemmas.Bool.{cases_Bool, and_parts, or_left, or_right, or_cases}
use Rattle.std.proofs.lemmas.List.{take_more}
use Rattle.fx_designs.specs.Answers.{before}
use Rattle.fx_laws.specs.Trees.{children_of, is_tree_design}
use Rattle.fx_tree.specs.Ranked.{Ranked, IsRanked, IsFirstLeast, IsPartBest, better, extends, counts_for, is_counted}
use Rattle.fx_tree.specs.Ranked.{is_counted_through}
use Rattle.fx_tree.proofs.Best.{clash, same_tests, joins, joins_both}
use Rattle.fx_tree.proofs.Branches.{so_far}
use Rattle.fx_tree.proofs.Lots.{job_seen}
use Rattle.fx_tree.proofs.Place.{split_of, extends-less, before-longer, before-shift, goes_on, child_of, falling-any}
use Rattle.fx_tree.proofs.Place.{any-never}

module _ (x : Ranked) (law : IsRanked x) (p : List ℕ) (part : length p < x.tree.size) (at : length p ≡ x.lot) (i : ℕ)
    (low : i < length (children_of x.tree p)) where
  abbrev kids : List ℕ
  kids = children_of x.tree p

  abbrev r : ℕ
  r = get_or kids i 0

  abbrev seen_so : List ℕ → Bool
  seen_so = so_far x law p part (take i kids)

  -- a job begins with what its lot begins with
  pub job_start : (o : Option (List ℕ)) → IsFirstLeast x (is_counted x p) o
      → IsFirstLeast x (is_counted x (p ++ r ∷ [])) o
  job_start o h =
      same_tests x (is_counted x p) (is_counted x (p ++ r ∷ [])) (λ d. sym (job_seen x law p part at r d)) o h

  pub order : (d e : List ℕ) → seen_so d ≡ true → is_counted_through x (p ++ r ∷ []) e ≡ true
      → (seen_so e ≡ true) ⊎ (before d e ≡ true)
  order d e h k =
      ⊎_elim (λ old. inl (or_left _ _ (sym (job_seen x law p part at r e) ∙ old))) (λ own. inr (late own))
      (or_cases (is_counted x (p ++ r ∷ []) e) _ k)
    where
      late : (is_tree_design x.tree e && extends e (p ++ r ∷ [])) ≡ true → before d e ≡ true
      late own =
          let s = split_of e (p ++ r ∷ []) (and_parts (is_tree_design x.tree e) (extends e (p ++ r ∷ [])) own).1 in
          let is : e ≡ p ++ r ∷ s.0 = s.1 ∙ append_assoc p (r ∷ []) s.0 in
          rw is (⊎_elim (λ old. first s.0 old) (λ more. between s.0 more) (or_cases (is_counted x p d) _ h))
        where
          first : (t : List ℕ) → is_counted x p d ≡ true → before d (p ++ r ∷ t) ≡ true
          first t old =
              before-longer d p (r ∷ t)
              (and_parts (before d p) _ (and_parts (is_tree_design x.tree d) (counts_for x d p) old).1).0

          between : (t : List ℕ)
              → (is_tree_design x.tree d && list_any (λ j. extends d (p ++ j ∷ [])) (take i kids)) ≡ true
              → before d (p ++ r ∷ t) ≡ true
          between t more =
              let parts =
              and_parts (is_tree_design x.tree d) (list_any (λ j. extends d (p ++ j ∷ [])) (take i kids)) more in
              elim (cases_Bool (extends d p)) [
                | inr out ↦
                    clash (list_any (λ j. extends d (p ++ j ∷ [])) (take i kids)) parts.1
                    (any-never (λ j. extends d (p ++ j ∷ [])) (λ j. extends-less d p (j ∷ []) out) (take i kids))
                | inl e' ↦
                    let k = goes_on x law p part d parts.0 e' in
                    let low' : ltb r k.0 ≡ true =
                    sym (child_of x law p part d k.0 k.1 k.2 (take i kids) ∙ falling-any
                    (λ j. x.tree.canonical (p ++ j ∷ [])) k.0 k.3 x.tree.rows i (law.ranged p k.0 k.3) low) ∙
                    parts.1 in
                    rw k.2 (before-shift p (k.0 ∷ k.1) (r ∷ t) ∙ or_left _ _ low')
              ]

  -- after the job, the better of what was found before and of what it found
  pub job_joins : (now own : Option (List ℕ)) → IsFirstLeast x seen_so now
      → IsFirstLeast x (is_counted_through x (p ++ r ∷ [])) own
      → IsFirstLeast x (so_far x law p part (take (i + 1) kids)) (better x now own)
  job_joins now own h k =
      same_tests x (λ d. seen_so d || is_counted_through x (p ++ r ∷ []) d) (so_far x law p part (take (i + 1) kids))
      agree (better x now own)
      (joins_both x law seen_so (is_counted_through x (p ++ r ∷ [])) order now own h k)
    where
      any-push : (f : ℕ → Bool) (rs : List ℕ) (r : ℕ) → list_any f (rs ++ r ∷ []) ≡ (list_any f rs || f r)
      any-push f [] r = elim (f r) as (λ b. (b || false) ≡ b) [ true ↦ refl | false ↦ refl ]
      any-push f (q ∷ rs) r =
          elim (f q) as (λ b. (b || list_any f (rs ++ r ∷ [])) ≡ ((b || list_any f rs) || f r))
          [ true ↦ refl | false ↦ any-push f rs r ]

      regroup : (a d u v : Bool) → ((a || (d && u)) || (a || (d && v))) ≡ (a || (d && (u || v)))
      regroup true d u v = refl
      regroup false true u v = refl
      regroup false false u v = refl

      agree : (d : List ℕ)
          → (seen_so d || is_counted_through x (p ++ r ∷ []) d) ≡ so_far x law p part (take (i + 1) kids) d
      agree d =
          ap (λ b. seen_so d || (b || (is_tree_design x.tree d && extends d (p ++ r ∷ []))))
          (job_seen x law p part at r d)
          ∙ regroup (is_counted x p d) (is_tree_design x.tree d) _ _
          ∙ ap (λ b. is_counted x p d || (is_tree_design x.tree d && b))
          (sym (cc (take_more kids i 0 low, any-push (λ r. extends d (p ++ r ∷ [])) (take i kids) r)))

  -- the same where the job tells its best only where it is better than one of the earlier lots
  pub improvement_joins : (start now own : Option (List ℕ)) → IsFirstLeast x seen_so now
      → ((b : List ℕ) → start ≡ Some b → seen_so b ≡ true)
      → IsPartBest x (λ d. is_tree_design x.tree d && extends d (p ++ r ∷ [])) start own
      → IsFirstLeast x (so_far x law p part (take (i + 1) kids)) (better x now own)
  improvement_joins start now own h known k =
      same_tests x (λ d. seen_so d || (is_tree_design x.tree d && extends d (p ++ r ∷ [])))
      (so_far x law p part (take (i + 1) kids)) agree (better x now own)
      (joins x law seen_so (λ d. is_tree_design x.tree d && extends d (p ++ r ∷ []))
      (λ d e a b. order d e a (or_right _ _ b)) start now own h known k)
    where
      any-push : (f : ℕ → Bool) (rs : List ℕ) (r : ℕ) → list_any f (rs ++ r ∷ []) ≡ (list_any f rs || f r)
      any-push f [] r = elim (f r) as (λ b. (b || false) ≡ b) [ true ↦ refl | false ↦ refl ]
      any-push f (q ∷ rs) r =
          elim (f q) as (λ b. (b || list_any f (rs ++ r ∷ [])) ≡ ((b || list_any f rs) || f r))
          [ true ↦ refl | false ↦ any-push f rs r ]

      regroup : (a d u v : Bool) → ((a || (d && u)) || (d && v)) ≡ (a || (d && (u || v)))
      regroup true d u v = refl
      regroup false true u v = refl
      regroup false false u v = refl

      agree : (d : List ℕ)
          → (seen_so d || (is_tree_design x.tree d && extends d (p ++ r ∷ [])))
          ≡ so_far x law p part (take (i + 1) kids) d
      agree d =
          cc (
            regroup (is_counted x p d) (is_tree_design x.tree d) _ _,
            take_more kids i 0 low,
            any-push (λ r. extends d (p ++ r ∷ [])) (take i kids) r,
          )
