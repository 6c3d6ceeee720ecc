-- The best of the lots before some rows, and of a job, where a least pattern is asked.
use Rattle.std.proofs.Common.{◌≡◌, ℕ, zero, suc, ◌<◌, ◌≤◌, ◌+◌, Bool, true, false, not, ◌&&◌, eqb, ltb, List, [], ◌∷◌}
use Rattle.std.proofs.Common.{length, take, Option, Some, None, refl, sym, subst, ap, inl, inr, arith, ⊎_elim}
use Rattle.std.proofs.lemmas.Bool.{cond-true, cond-false, cases_Bool, and_parts, and_from, and_left, or_left, or_right}
use Rattle.std.proofs.lemmas.Bool.{or_cases, false_from_ne_true, eqb-true, lt-ltb, le-leb, lt-leb, cases_lt}
use Rattle.std.proofs.lemmas.List.{take_all}
use Rattle.fx_designs.specs.Galois.{IsField}
use Rattle.fx_designs.specs.Vectors.{same}
use Rattle.fx_designs.specs.Problems.{Problem}
use Rattle.fx_designs.specs.Demands.{is_allowed}
use Rattle.fx_designs.specs.Canonical.{is_canonical}
use Rattle.fx_designs.specs.Answers.{before}
use Rattle.fx_designs.specs.Nodes.{lot_of}
use Rattle.fx_laws.specs.Trees.{tree_of, is_tree_design}
use Rattle.fx_designs.specs.Jobs.{is_of_job, is_of_earlier_lot, best_of, best_before, improves, improvement}
use Rattle.fx_designs.specs.Jobs.{best_inside}
use Rattle.fx_tree.specs.Ranked.{Ranked, IsRanked, IsFirstLeast, extends, counts_for, is_counted, is_counted_through}
use Rattle.fx_tree.specs.Search.{ranked}
use Rattle.fx_tree.proofs.Best.{clash, same_tests}
use Rattle.fx_tree.proofs.Patterns.{is-ranked}
use Rattle.fx_tree.proofs.Place.{split_of, before-longer, extends-not_before}
use Rattle.fx_tree.proofs.Fronts.{front-extends, front-before, before-front}
use Rattle.fx_tree.proofs.Firsts.{best-is, best-least}

module _ (p : Problem) (f : IsField p.dimensions.q) (some : 0 < p.dimensions.s + p.dimensions.t)
    (least : p.least ≡ true) where
  abbrev x : Ranked
  x = ranked p

  abbrev law : IsRanked (ranked p)
  law = is-ranked p f

  abbrev m : ℕ
  m = p.dimensions.m

  whole : (d : List ℕ) → is_tree_design (tree_of p) d ≡ true → length d ≡ p.dimensions.s + p.dimensions.t
  whole d h =
      eqb-true (length d) (p.dimensions.s + p.dimensions.t)
      (and_parts (eqb (length d) (p.dimensions.s + p.dimensions.t))
      (is_canonical p.dimensions p.requirement d && is_allowed p.dimensions p.requirement d) h).0

  counts-short : (c d : List ℕ) → length c ≤ m + 1 → m + 1 ≤ length d
      → counts_for x d c ≡ is_of_earlier_lot p.dimensions c d
  counts-short c d short long =
      let lot : take (m + 1) c ≡ c = take_all (m + 1) c (omega arith) in
      cc (
        and_left _ _ (lt-leb (m + 1 + 1) (length c) (omega arith)),
        unit (before d c),
        before-front (m + 1) d c short long,
        lot,
        lt-ltb m (length d) (omega arith),
      )
    where
      unit : (a : Bool) → (a && true) ≡ a
      unit true = refl
      unit false = refl

  counts-job : (c d : List ℕ) → length c ≡ m + 2 → m + 2 ≤ length d
      → counts_for x d c ≡ is_of_earlier_lot p.dimensions c d
  counts-job c d job long =
      let own : take (m + 1 + 1) c ≡ c = take_all (m + 1 + 1) c (omega arith) in
      let e : same (take (m + 1 + 1) d) (take (m + 1 + 1) c) ≡ extends d c =
      cc (own, front-extends (m + 1 + 1) d c (omega arith)) in
      cc (
        le-leb (m + 1 + 1) (length c) (omega arith),
        e,
        drop (extends d c) refl,
        front-before (m + 1) d c (omega arith) (omega arith),
        lt-ltb m (length d) (omega arith),
      )
    where
      table : (a s : Bool) → (a && not (true && (s && not false))) ≡ (a && not s)
      table true true = refl
      table true false = refl
      table false s = refl

      drop : (b : Bool) → extends d c ≡ b
          → (before d c && not (true && (same (take (m + 1) d) (take (m + 1) c) && not b)))
          ≡ (before d c && not (same (take (m + 1) d) (take (m + 1) c)))
      drop true h = let late = extends-not_before d c h in cc (and_left _ _ late)
      drop false h = table (before d c) (same (take (m + 1) d) (take (m + 1) c))

  -- what counts for a job, a lot or a shorter prefix are the designs of earlier lots
  pub earlier-seen : (c : List ℕ) → length c ≤ m + 2 → m < p.dimensions.s + p.dimensions.t
      → length c ≤ p.dimensions.s + p.dimensions.t → (d : List ℕ)
      → is_counted x c d ≡ (is_tree_design (tree_of p) d && is_of_earlier_lot p.dimensions c d)
  earlier-seen c short room fits d =
      elim (cases_Bool (is_tree_design (tree_of p) d)) [
        | inr out ↦ cc (and_left _ _ out)
        | inl h ↦ let len = whole d h in
            ap (λ b. is_tree_design (tree_of p) d && b) (elim (cases_lt (m + 1) (length c)) [
              | inl deep ↦ counts-job c d (omega arith) (omega arith)
              | inr high ↦ counts-short c d (omega arith) (omega arith)
            ])
      ]

  -- so the best of those is the best of the earlier lots
  pub before-best : (c : List ℕ) → length c ≤ m + 2 → m < p.dimensions.s + p.dimensions.t
      → length c ≤ p.dimensions.s + p.dimensions.t → (o : Option (List ℕ)) → IsFirstLeast x (is_counted x c) o
      → best_before p c ≡ o
  unfolding best_before
  before-best c short room fits o h =
      best-is p f some least (is_of_earlier_lot p.dimensions c) o
      (same_tests x (is_counted x c) (λ d. is_tree_design (tree_of p) d && is_of_earlier_lot p.dimensions c d)
      (earlier-seen c short room fits) o h)

  pub before-least : (c : List ℕ) → length c ≤ m + 2 → m < p.dimensions.s + p.dimensions.t
      → length c ≤ p.dimensions.s + p.dimensions.t → IsFirstLeast x (is_counted x c) (best_before p c)
  unfolding best_before
  before-least c short room fits =
      same_tests x (λ d. is_tree_design (tree_of p) d && is_of_earlier_lot p.dimensions c d) (is_counted x c)
      (λ d. sym (earlier-seen c short room fits d)) (best_before p c)
      (best-least p f some least (is_of_earlier_lot p.dimensions c))

  -- a search knows of a job its own best where that begins with the job
  module _ (j : List ℕ) (job : length j ≡ m + 2) (room : m + 2 ≤ p.dimensions.s + p.dimensions.t)
      (now : Option (List ℕ)) (h : IsFirstLeast x (is_counted_through x j) now) where
    abbrev from : List ℕ → Bool
    from d = is_tree_design (tree_of p) d && extends d j

    abbrev start : Option (List ℕ)
    start = best_before p j

    start-is : IsFirstLeast x (is_counted x j) (best_before p j)
    start-is = before-least j (omega arith) (omega arith) (omega arith)

    from-best : (o : Option (List ℕ)) → IsFirstLeast x from o → best_of p (is_of_job p.dimensions j) ≡ o
    from-best o k = best-is p f some least (is_of_job p.dimensions j) o
        (same_tests x from (λ d. is_tree_design (tree_of p) d && is_of_job p.dimensions j d)
        (λ d. cc (front-extends (m + 2) d j job)) o k)

    from-least : IsFirstLeast x from (best_of p (is_of_job p.dimensions j))
    from-least =
        same_tests x (λ d. is_tree_design (tree_of p) d && is_of_job p.dimensions j d) from
        (λ d. cc (front-extends (m + 2) d j job)) _
        (best-least p f some least (is_of_job p.dimensions j))

    -- nothing of the job is better
    none-told : ((e : List ℕ) → from e ≡ true → (s : Option (List ℕ)) → start ≡ s → improves p.dimensions s e ≡ false)
        → best_inside p j ≡ None
    unfolding best_inside
    none-told none = go (best_of p (is_of_job p.dimensions j)) refl
      where
        go : (o : Option (List ℕ)) → best_of p (is_of_job p.dimensions j) ≡ o
            → improvement p.dimensions (best_before p j) (best_of p (is_of_job p.dimensions j)) ≡ None
        go None e = ap (improvement p.dimensions (best_before p j)) e
        go (Some c) e =
            let own : from c ≡ true = (subst (IsFirstLeast x from) e from-least).0 in
            cc (e, cond-false _ _ _ (none c own (best_before p j) refl))

    pub told-none : now ≡ None → best_inside p j ≡ None
    told-none e =
        none-told (λ c own s is. absurd (subst (IsFirstLeast x (is_counted_through x j)) e h c (or_right _ _ own)))

    pub told-old : (b : List ℕ) → now ≡ Some b → extends b j ≡ false → best_inside p j ≡ None
    told-old b e out = none-told (λ c own s is. go c own s is)
      where
        k : IsFirstLeast x (is_counted_through x j) (Some b)
        k = subst (IsFirstLeast x (is_counted_through x j)) e h

        old : is_counted x j b ≡ true
        old = ⊎_elim (λ z. z)
            (λ z. clash (extends b j) (and_parts (is_tree_design (tree_of p) b) (extends b j) z).1 out)
            (or_cases (is_counted x j b) (from b) k.0)

        go : (c : List ℕ) → from c ≡ true → (s : Option (List ℕ)) → start ≡ s → improves p.dimensions s c ≡ false
        go c own None is = absurd (subst (IsFirstLeast x (is_counted x j)) is start-is b old)
        go c own (Some s) is =
            let best = subst (IsFirstLeast x (is_counted x j)) is start-is in
            false_from_ne_true _ (λ z. clash (x.less c b) (law.apart c s b z (best.1 b old)) (k.1 c (or_right _ _ own)))

    pub told-new : (b : List ℕ) → now ≡ Some b → extends b j ≡ true → best_inside p j ≡ Some b
    unfolding best_inside
    told-new b e own =
        let k : IsFirstLeast x (is_counted_through x j) (Some b) =
        subst (IsFirstLeast x (is_counted_through x j)) e h in
        let design : is_tree_design (tree_of p) b ≡ true =
        ⊎_elim (λ z. (and_parts (is_tree_design (tree_of p) b) (counts_for x b j) z).0)
        (λ z. (and_parts (is_tree_design (tree_of p) b) (extends b j) z).0)
        (or_cases (is_counted x j b) (from b) k.0) in
        let mine : IsFirstLeast x from (Some b) =
        (and_from _ _ design own, λ d z. k.1 d (or_right _ _ z), λ d z first. k.2 d (or_right _ _ z) first) in
        cc (from-best (Some b) mine, cond-true _ _ _ (go k (best_before p j) refl))
      where
        go : IsFirstLeast x (is_counted_through x j) (Some b) → (s : Option (List ℕ)) → start ≡ s
            → improves p.dimensions s b ≡ true
        go k None is = refl
        go k (Some s) is =
            let best = subst (IsFirstLeast x (is_counted x j)) is start-is in
            let first =
            (and_parts (before s j) _ (and_parts (is_tree_design (tree_of p) s) (counts_for x s j) best.0).1).0 in
            let z = split_of b j own in
            k.2 s (or_left _ _ best.0) (rw z.1 (before-longer s j z.0 first))

-- the lots before a prefix are those before its lot
pub before-lot : (p : Problem) (rows lot : List ℕ) → take (p.dimensions.m + 1) rows ≡ lot
    → best_before p rows ≡ best_before p lot
unfolding best_before
before-lot p rows lot e =
    let twice : lot_of p.dimensions rows ≡ lot_of p.dimensions lot =
    cc (again (p.dimensions.m + 1) rows, e) in
    ap (λ l. best_of p (λ matrix. ltb p.dimensions.m (length matrix) && before (lot_of p.dimensions matrix) l)) twice
  where
    again : (k : ℕ) (rows : List ℕ) → take k (take k rows) ≡ take k rows
    again zero rows = refl
    again (suc k) [] = refl
    again (suc k) (a ∷ rows) = cc (again k rows)
