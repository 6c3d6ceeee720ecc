-- Branches, and the best so far.
use Rattle.std.proofs.Common.{◌≡◌, ℕ, ◌+◌, ◌<◌, ◌≤◌, Bool, true, false, not, ◌&&◌, ◌||◌, eqb, ltb, leb, List, [], ◌∷◌}
use Rattle.std.proofs.Common.{◌++◌, length, take, get_or, Option, Some, None, refl, sym, ap, ◌∙◌, ◌⊎◌, inl, inr}
use Rattle.std.proofs.Common.{arith, subst, lt-ltb, ltb-true, eqb-true, append_assoc, append-nil, length-append}
use Rattle.std.proofs.Common.{take_all}
use Rattle.std.specs.List.{list_any, AllByRecursion}
use Rattle.std.proofs.lemmas.Bool.{cond-true, cases_Bool, and_from, and_left, and_right, and_parts, or_parts}
use Rattle.std.proofs.lemmas.Bool.{false_from_ne_true, not_from_true, not_from_false, not-true, leb-true, leb-false}
use Rattle.std.proofs.lemmas.List.{take-append-le, take_more}
use Rattle.fx_designs.specs.Vectors.{same}
use Rattle.fx_designs.specs.Answers.{before}
use Rattle.fx_laws.specs.Trees.{IsTree, is_tree_design, children_of, tree_prefixes}
use Rattle.fx_laws.proofs.Candidates.{closed-append}
use Rattle.fx_laws.proofs.Order.{before-self, all_lists}
use Rattle.fx_tree.specs.Ranked.{Ranked, IsRanked, counts_for, is_ranked_branch, IsFirstLeast, IsPartBest, better}
use Rattle.fx_tree.specs.Ranked.{extends, is_counted, is_counted_through, branches, Wins, Loses}
use Rattle.fx_tree.proofs.Best.{joins, clash, same_tests}
use Rattle.fx_tree.proofs.Lots.{short_seen}
use Rattle.fx_tree.proofs.Place.{split_of, extends-append, before-longer, extends-not_before, take-same, all_children}
use Rattle.fx_tree.proofs.Place.{child_seen, any-never}
use Rattle.fx_base.specs.Members.{Has}
use Rattle.fx_base.proofs.Members.{has-each}

pub any-none : {X : Type 0} (f : X → Bool) (xs : List X) → list_any f xs ≡ false → AllByRecursion (λ y. f y ≡ false) xs
any-none f [] h = tt
any-none f (y ∷ ys) h = let parts = or_parts (f y) (list_any f ys) h in (parts.0, any-none f ys parts.1)

module _ (x : Ranked) (law : IsRanked x) where
  abbrev beats : List ℕ → List ℕ → Bool
  beats c d = is_counted x c d && not (x.less c d)

  rows_below : (c s : List ℕ) → x.tree.canonical (c ++ s) ≡ true → AllByRecursion (λ r. r < x.tree.rows) s
  rows_below c [] h = tt
  rows_below c (r ∷ s) h =
      let w : x.tree.canonical ((c ++ r ∷ []) ++ s) ≡ true =
      rw (append_assoc c (r ∷ []) s) h in (
        law.ranged c r (closed-append x.tree.canonical law.tree.canonical (c ++ r ∷ []) s w),
        rows_below (c ++ r ∷ []) s
            w,
      )

  -- a design is one of the prefixes
  pub design-in : (d : List ℕ) → is_tree_design x.tree d ≡ true → 0 < x.tree.size → Has d (tree_prefixes x.tree)
  design-in d h some =
      let parts = and_parts (eqb (length d) x.tree.size) (x.tree.canonical d && x.tree.allowed d) h in
      let full = eqb-true (length d) x.tree.size parts.0 in
      let can = (and_parts (x.tree.canonical d) (x.tree.allowed d) parts.1).0 in
      all_lists x.tree.rows x.tree.size d (omega arith) (omega arith) (rows_below [] d can)

  -- a branch is less than each design that counts
  branch_less : (c : List ℕ) → is_ranked_branch x c ≡ true → (d : List ℕ) → is_counted x c d ≡ true → x.less c d ≡ true
  branch_less c h d k =
      let parts =
      and_parts (ltb (length c) x.tree.size) (not (list_any (beats c) (tree_prefixes x.tree)))
      (and_parts (x.tree.allowed c) _ h).1 in
      let short = ltb-true (length c) x.tree.size parts.0 in
      let own = and_parts (is_tree_design x.tree d) (counts_for x d c) k in
      let z : beats c d ≡ false =
      has-each (λ d. beats c d ≡ false) d (tree_prefixes x.tree)
      (any-none (beats c) (tree_prefixes x.tree) (not-true _ parts.1)) (design-in d own.0 (omega arith)) in
      elim (cases_Bool (x.less c d)) [
        | inl e ↦ e
        | inr e ↦ clash (beats c d) (and_from _ _ k (not_from_false _ e)) z
      ]

  branch_from : (c : List ℕ) → x.tree.allowed c ≡ true → length c < x.tree.size
      → ((d : List ℕ) → is_counted x c d ≡ true → x.less c d ≡ true) → is_ranked_branch x c ≡ true
  branch_from c a short h =
      and_from _ _ a
      (and_from _ _ (lt-ltb _ _ short)
      (not_from_false _ (any-never (beats c) (λ d. elim (cases_Bool (is_counted x c d)) [
        | inl e ↦ and_right _ _ (not_from_true _ (h d e))
        | inr e ↦ and_left _ _ e
      ]) (tree_prefixes x.tree))))

  pub wins_branch : (c : List ℕ) (o : Option (List ℕ)) → IsFirstLeast x (is_counted x c) o → x.tree.allowed c ≡ true
      → length c < x.tree.size → Wins x c o → is_ranked_branch x c ≡ true
  wins_branch c None h a short w = branch_from c a short (λ d k. absurd (h d k))
  wins_branch c (Some b) h a short w = branch_from c a short (λ d k. law.apart c b d w (h.1 d k))

  pub loses_branch : (c : List ℕ) (o : Option (List ℕ)) → IsFirstLeast x (is_counted x c) o → Loses x c o
      → is_ranked_branch x c ≡ false
  loses_branch c None h w = absurd w
  loses_branch c (Some b) h w =
      false_from_ne_true (is_ranked_branch x c) (λ z. clash (x.less c b) (branch_less c z b h.0) w)

  -- what counts_for for p counts_for for its extensions
  counts_on : (d p : List ℕ) (r : ℕ) → counts_for x d p ≡ true → counts_for x d (p ++ r ∷ []) ≡ true
  counts_on d p r h =
      let parts = and_parts (before d p) _ h in
      let long : length (p ++ r ∷ []) ≡ length p + 1 = length-append p (r ∷ []) in
      and_from _ _ (before-longer d p (r ∷ []) parts.0)
      (elim (cases_Bool (leb (x.lot + 1) (length (p ++ r ∷ [])))) [
        | inr e ↦ not_from_false _ (and_left _ _ e)
        | inl e ↦ at_lot e parts.0 parts.1
      ])
    where
      at_lot : leb (x.lot + 1) (length (p ++ r ∷ [])) ≡ true → before d p ≡ true →
          not (leb (x.lot + 1) (length p)
          && (same (take x.lot d) (take x.lot p) && not (same (take (x.lot + 1) d) (take (x.lot + 1) p)))) ≡ true →
          not (leb (x.lot + 1) (length (p ++ r ∷ []))
          && (same (take x.lot d) (take x.lot (p ++ r ∷ []))
          && not (same (take (x.lot + 1) d) (take (x.lot + 1) (p ++ r ∷ []))))) ≡ true
      at_lot e b k = elim (cases_Bool (leb (x.lot + 1) (length p))) [
        | inl f ↦
            let low = leb-true (x.lot + 1) (length p) f in
            cc (
              e,
              f,
              take-append-le x.lot p (r ∷ []) (omega arith),
              take-append-le (x.lot + 1) p (r ∷ []) (omega arith),
              k,
            )
        | inr f ↦
            let high = leb-false (x.lot + 1) (length p) f in
            let low = leb-true (x.lot + 1) (length (p ++ r ∷ [])) e in
            let is : length p ≡ x.lot = omega (arith, length-append p (r ∷ [])) in
            let whole : take x.lot (p ++ r ∷ []) ≡ p =
            take-append-le x.lot p (r ∷ []) (omega arith) ∙ take_all x.lot p (omega arith) in
            let out : same (take x.lot d) (take x.lot (p ++ r ∷ [])) ≡ false =
            false_from_ne_true (same (take x.lot d) (take x.lot (p ++ r ∷ [])))
            (λ z. clash (before d p) b
            (extends-not_before d p (take-same x.lot d p (rw whole at z))))
            in
            not_from_false _ (and_right _ _ (and_left _ _ out))
      ]

  pub branches_law : IsTree (branches x)
  branches_law = record {
    canonical = law.tree.canonical;
    allowed = λ p r h.
        let parts = and_parts (x.tree.allowed (p ++ r ∷ [])) _ h in
        let more =
        and_parts (ltb (length (p ++ r ∷ [])) x.tree.size)
        (not (list_any (beats (p ++ r ∷ [])) (tree_prefixes x.tree))) parts.1 in
        let short = ltb-true _ _ more.0 in
        branch_from p (law.tree.allowed p r parts.0) (omega (arith, length-append p (r ∷ [])))
        (λ d k.
        let own = and_parts (is_tree_design x.tree d) (counts_for x d p) k in
        let less = branch_less (p ++ r ∷ []) h d (and_from _ _ own.0 (counts_on d p r own.1)) in
        elim (cases_Bool (x.less p d)) [
          | inl e ↦ e
          | inr e ↦ clash (x.less (p ++ r ∷ []) p) (law.apart (p ++ r ∷ []) d p less e) (law.longer p (r ∷ []))
        ]);
  }

  -- the designs from c on
  abbrev pub from : List ℕ → List ℕ → Bool
  from c d = is_tree_design x.tree d && extends d c

  module _ (c : List ℕ) (now : Option (List ℕ)) (h : IsFirstLeast x (is_counted x c) now) where
    own_seen : (b : List ℕ) → now ≡ Some b → is_counted x c b ≡ true
    own_seen b e = (subst (IsFirstLeast x (is_counted x c)) e h).0

    later : (d e : List ℕ) → is_counted x c d ≡ true → from c e ≡ true → before d e ≡ true
    later d e k m =
        let first = (and_parts (before d c) _ (and_parts (is_tree_design x.tree d) (counts_for x d c) k).1).0 in
        let s = split_of e c (and_parts (is_tree_design x.tree e) (extends e c) m).1 in
        rw s.1 (before-longer d c s.0 first)

    join : (own : Option (List ℕ)) → IsPartBest x (from c) now own
        → IsFirstLeast x (is_counted_through x c) (better x now own)
    join own k = joins x law (is_counted x c) (from c) (λ d e k m. inr (later d e k m)) now now own h own_seen k

    not_less : (o : Option (List ℕ)) → ((b : List ℕ) → o ≡ Some b → (d : List ℕ) → from c d ≡ true → x.less d b ≡ false)
        → (o ≡ None → (d : List ℕ) → from c d ≡ true → ⊥) → IsPartBest x (from c) o None
    not_less None k m = m refl
    not_less (Some b) k m = k b refl

    pub barred_best : x.tree.allowed c ≡ false → IsFirstLeast x (is_counted_through x c) now
    barred_best out =
        let none : (d : List ℕ) → from c d ≡ true → ⊥ = λ d m.
        let own = and_parts (is_tree_design x.tree d) (extends d c) m in
        let s = split_of d c own.1 in
        let a = (and_parts (x.tree.canonical d) (x.tree.allowed d)
        (and_parts (eqb (length d) x.tree.size) (x.tree.canonical d && x.tree.allowed d) own.0).1).1 in
        clash (x.tree.allowed c)
        (closed-append x.tree.allowed law.tree.allowed c s.0 (rw s.1 at a)) out in
        join None (not_less now (λ b e d m. absurd (none d m)) (λ e. none))

    pub beaten_best : Loses x c now → IsFirstLeast x (is_counted_through x c) now
    beaten_best w = join None (not_less now below (λ e. absurd (subst (Loses x c) e w)))
      where
        below : (b : List ℕ) → now ≡ Some b → (d : List ℕ) → from c d ≡ true → x.less d b ≡ false
        below b e d m =
            let s = split_of d c (and_parts (is_tree_design x.tree d) (extends d c) m).1 in
            let lose : x.less c b ≡ false = subst (Loses x c) e w in
            false_from_ne_true (x.less d b)
            (λ z. clash (x.less (c ++ s.0) c) (law.apart (c ++ s.0) b c (rw s.1 at z) lose)
            (law.longer c s.0))

    pub better_best : is_tree_design x.tree c ≡ true → Wins x c now → IsFirstLeast x (is_counted_through x c) (Some c)
    better_best design w = subst (IsFirstLeast x (is_counted_through x c)) (wins now w) (join (Some c) (own now w))
      where
        self : (d : List ℕ) → from c d ≡ true → d ≡ c
        self d m =
            let own = and_parts (is_tree_design x.tree d) (extends d c) m in
            let s = split_of d c own.1 in
            let full =
            eqb-true (length d) x.tree.size
            (and_parts (eqb (length d) x.tree.size) (x.tree.canonical d && x.tree.allowed d) own.0).0 in
            let long =
            eqb-true (length c) x.tree.size
            (and_parts (eqb (length c) x.tree.size) (x.tree.canonical c && x.tree.allowed c) design).0 in
            none s.0 s.1 (omega (arith, ap length s.1, length-append c s.0))
          where
            none : (s : List ℕ) → d ≡ c ++ s → length s ≡ 0 → d ≡ c
            none [] e z = e ∙ append-nil c
            none (a ∷ s) e z = absurd (omega arith)

        least : IsFirstLeast x (from c) (Some c)
        least = (
          and_from _ _ design (cc (append-nil c, extends-append c [])),
          λ d m. rw (self d m) (false_from_ne_true (x.less c c) (λ z. clash (x.less c c) z (law.not_both c c z))),
          λ d m first. clash (before c c) (rw (self d m) at first) (before-self c),
        )

        own : (o : Option (List ℕ)) → Wins x c o → IsPartBest x (from c) o (Some c)
        own None w = least
        own (Some b) w = (least, w)

        wins : (o : Option (List ℕ)) → Wins x c o → better x o (Some c) ≡ Some c
        wins None w = refl
        wins (Some b) w = cond-true (x.less c b) (Some c) (Some b) w

  module _ (p : List ℕ) (part : length p < x.tree.size) where
    abbrev kids : List ℕ
    kids = children_of x.tree p

    -- what is seen when some children have been walked
    abbrev pub so_far : List ℕ → List ℕ → Bool
    so_far rs d = is_counted x p d || (is_tree_design x.tree d && list_any (λ r. extends d (p ++ r ∷ [])) rs)

    pub start_best : (o : Option (List ℕ)) → IsFirstLeast x (is_counted x p) o → IsFirstLeast x (so_far []) o
    start_best o h =
        same_tests x (is_counted x p) (so_far []) (λ d. plain (is_counted x p d) (is_tree_design x.tree d)) o h
      where
        plain : (a b : Bool) → a ≡ (a || (b && false))
        plain true b = refl
        plain false true = refl
        plain false false = refl

    pub end_best : (i : ℕ) (o : Option (List ℕ)) → length kids ≤ i → IsFirstLeast x (so_far (take i kids)) o
        → IsFirstLeast x (is_counted_through x p) o
    end_best i o past h =
        same_tests x (so_far (take i kids)) (is_counted_through x p)
        (λ d. cc (take_all i kids past, all_children x law p part d)) o h

    module _ (away : (x.lot < length p) ⊎ (length p < x.lot)) (i : ℕ) (low : i < length kids) where
      -- which designs count for a child, where the prefix is no lot
      next_seen : (d : List ℕ) → is_counted x (p ++ get_or kids i 0 ∷ []) d ≡ so_far (take i kids) d
      next_seen d =
          elim away [
            | inl deep ↦ child_seen x law p part deep i low d
            | inr high ↦
                short_seen x law p part high i low d
          ]

      pub enter_best : (o : Option (List ℕ)) → IsFirstLeast x (so_far (take i kids)) o
          → IsFirstLeast x (is_counted x (p ++ get_or kids i 0 ∷ [])) o
      enter_best o h =
          same_tests x (so_far (take i kids)) (is_counted x (p ++ get_or kids i 0 ∷ [])) (λ d. sym (next_seen d)) o h

      pub leave_best : (o : Option (List ℕ)) → IsFirstLeast x (is_counted_through x (p ++ get_or kids i 0 ∷ [])) o
          → IsFirstLeast x (so_far (take (i + 1) kids)) o
      leave_best o h =
          same_tests x (is_counted_through x (p ++ get_or kids i 0 ∷ [])) (so_far (take (i + 1) kids)) agree o h
        where
          any-push : (f : ℕ → Bool) (rs : List ℕ) (r : ℕ) → list_any f (rs ++ r ∷ []) ≡ (list_any f rs || f r)
          any-push f [] r = elim (f r) as (λ b. (b || false) ≡ b) [ true ↦ refl | false ↦ refl ]
          any-push f (q ∷ rs) r =
              elim (f q) as (λ b. (b || list_any f (rs ++ r ∷ [])) ≡ ((b || list_any f rs) || f r))
              [ true ↦ refl | false ↦ any-push f rs r ]

          regroup : (a d u v : Bool) → ((a || (d && u)) || (d && v)) ≡ (a || (d && (u || v)))
          regroup true d u v = refl
          regroup false true u v = refl
          regroup false false u v = refl

          agree : (d : List ℕ) → is_counted_through x (p ++ get_or kids i 0 ∷ []) d ≡ so_far (take (i + 1) kids) d
          agree d =
              ap (λ b. b || (is_tree_design x.tree d && extends d (p ++ get_or kids i 0 ∷ []))) (next_seen d)
              ∙ regroup (is_counted x p d) (is_tree_design x.tree d) _ _
              ∙ ap (λ b. is_counted x p d || (is_tree_design x.tree d && b))
              (sym (ap (list_any (λ r. extends d (p ++ r ∷ []))) (take_more kids i 0 low) ∙ any-push
              (λ r. extends d (p ++ r ∷ [])) (take i kids) (get_or kids i 0)))
