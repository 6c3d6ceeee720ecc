-- What counts_for above the jobs, and the prefixes of one job.
use Rattle.std.proofs.Common.{◌≡◌, ◌≢◌, ℕ, zero, suc, ◌+◌, ◌<◌, ◌≤◌, Bool, true, false, ◌&&◌, ◌||◌, cond, eqb, ltb}
use Rattle.std.proofs.Common.{List, [], ◌∷◌, ◌++◌, map, length, take, get_or, refl, sym, ap, ap₂, ◌∙◌, inl, inr, arith}
use Rattle.std.proofs.Common.{eq-eqb, ne_eqb, le-leb, eqb-true, append-nil, length-append, take_all}
use Rattle.std.specs.List.{filter, flat_map}
use Rattle.std.proofs.lemmas.Bool.{cases_Bool, and_from, and_left, and_right, or_from, and_parts, false_from_ne_true}
use Rattle.std.proofs.lemmas.Bool.{not_from_true, not_from_false, lt-leb}
use Rattle.std.proofs.lemmas.List.{take-append-le}
use Rattle.std.proofs.lemmas.List.Elements.{filter-append, filter_agree}
use Rattle.std.proofs.lemmas.Simd.{map-map}
use mathlib.Core.Bool.{or-false}
use Rattle.fx_base.proofs.Lists.{each-map, each-all}
use Rattle.fx_designs.specs.Vectors.{same}
use Rattle.fx_designs.specs.Answers.{falling, lists, before}
use Rattle.fx_laws.specs.Trees.{is_tree_design, children_of}
use Rattle.fx_laws.proofs.Through.{filter-none}
use Rattle.fx_laws.proofs.Weights.{same-self}
use Rattle.fx_tree.specs.Ranked.{Ranked, IsRanked, counts_for, extends, is_counted}
use Rattle.fx_tree.proofs.Place.{split_of, extends-less, extends-not_before, before-shift, before-apart, take-same}
use Rattle.fx_tree.proofs.Place.{goes_on, child_of, of_child, falling-any, any-never}

module _ (x : Ranked) (law : IsRanked x) (p : List ℕ) (part : length p < x.tree.size) where
  abbrev rows : List ℕ
  rows = children_of x.tree p

  -- outside the lots every design before a child counts_for
  pub short_seen : length p < x.lot → (i : ℕ) → i < length rows → (d : List ℕ)
      → is_counted x (p ++ get_or rows i 0 ∷ []) d
      ≡ (is_counted x p d || (is_tree_design x.tree d && of_child x law p part (take i rows) d))
  short_seen short i low d =
      elim (cases_Bool (is_tree_design x.tree d)) [
        | inr out ↦ and_left _ _ out ∙ sym (or_from _ _ (and_left _ _ out) (and_left _ _ out))
        | inl h ↦
            let full =
            eqb-true (length d) x.tree.size
            (and_parts (eqb (length d) x.tree.size) (x.tree.canonical d && x.tree.allowed d) h).0 in
            let r : ℕ = get_or rows i 0 in
            let long : length (p ++ r ∷ []) ≡ length p + 1 = length-append p (r ∷ []) in
            let free : (l : List ℕ) → length l ≤ x.lot → counts_for x d l ≡ before d l =
            λ l z. unit (before d l) _
            (not_from_false _ (and_left _ _ (lt-leb (x.lot + 1) (length l) (omega arith)))) in
            ap₂ (λ a b. a && b) h (free (p ++ r ∷ []) (omega arith))
            ∙ (elim (cases_Bool (extends d p)) [
              | inl e ↦
                  let k = goes_on x law p part d h e in
                  let own : of_child x law p part (take i rows) d ≡ ltb r k.0 =
                  child_of x law p part d k.0 k.1 k.2 (take i rows) ∙ falling-any
                  (λ j. x.tree.canonical (p ++ j ∷ [])) k.0 k.3 x.tree.rows i (law.ranged p k.0 k.3) low in
                  let here : before d (p ++ r ∷ []) ≡ ltb r k.0 =
                  cc (k.2, before-shift p (k.0 ∷ k.1) (r ∷ []), plain (ltb r k.0) (eqb k.0 r)) in
                  let gone : counts_for x d p ≡ false = and_left _ _ (extends-not_before d p e) in
                  here ∙ sym (ap₂ (λ a b. (a && b) || (a && of_child x law p part (take i rows) d)) h gone ∙ own)
              | inr e ↦
                  let none : of_child x law p part (take i rows) d ≡ false =
                  any-never (λ j. extends d (p ++ j ∷ [])) (λ j. extends-less d p (j ∷ []) e) (take i rows) in
                  before-apart d p (r ∷ []) (omega arith) e ∙ sym (free p (omega arith)) ∙ sym
                  (ap₂ (λ a b. (a && counts_for x d p) || (a && b)) h none ∙ or-false (counts_for x d p))
            ])
      ]
    where
      plain : (a b : Bool) → (a || (b && false)) ≡ a
      plain true b = refl
      plain false true = refl
      plain false false = refl

      unit : (a b : Bool) → b ≡ true → (a && b) ≡ a
      unit true b z = z
      unit false b z = refl

  -- the jobs of a lot see what their lot sees, and not each other
  pub job_seen : length p ≡ x.lot → (r : ℕ) → (d : List ℕ) → is_counted x (p ++ r ∷ []) d ≡ is_counted x p d
  job_seen at r d =
      elim (cases_Bool (is_tree_design x.tree d)) [
        | inr out ↦ cc (and_left _ _ out)
        | inl h ↦
            let full =
            eqb-true (length d) x.tree.size
            (and_parts (eqb (length d) x.tree.size) (x.tree.canonical d && x.tree.allowed d) h).0 in
            let long : length (p ++ r ∷ []) ≡ length p + 1 = length-append p (r ∷ []) in
            ap₂ (λ a b. a && b) h (elim (cases_Bool (extends d p)) [
              | inl e ↦ split d e (omega arith)
              | inr e ↦ apart d e (omega arith)
            ]) ∙ sym (cc h)
      ]
    where
      lot_is : take x.lot (p ++ r ∷ []) ≡ p
      lot_is = take-append-le x.lot p (r ∷ []) (omega arith) ∙ take_all x.lot p (omega arith)

      job_is : take (x.lot + 1) (p ++ r ∷ []) ≡ p ++ r ∷ []
      job_is = take_all (x.lot + 1) (p ++ r ∷ []) (omega (arith, length-append p (r ∷ [])))

      apart : (d : List ℕ) → extends d p ≡ false → length p ≤ length d → counts_for x d (p ++ r ∷ []) ≡ counts_for x d p
      apart d e low =
          let other : same (take x.lot d) (take x.lot (p ++ r ∷ [])) ≡ false =
          false_from_ne_true (same (take x.lot d) (take x.lot (p ++ r ∷ [])))
          (λ z. let w = take-same x.lot d p (rw lot_is at z) in
          absurd (cc (w, e))) in
          cc (
            before-apart d p (r ∷ []) low e,
            and_right _ _ (and_left _ _ other),
            and_left _ _ (lt-leb (x.lot + 1) (length p) (omega arith)),
          )

      split : (d : List ℕ) → extends d p ≡ true → length p < length d → counts_for x d (p ++ r ∷ []) ≡ counts_for x d p
      split d e low =
          let gone : counts_for x d p ≡ false = and_left _ _ (extends-not_before d p e) in
          elim (cases_Bool (same (take (x.lot + 1) d) (take (x.lot + 1) (p ++ r ∷ [])))) [
            | inl a ↦
                let own : extends d (p ++ r ∷ []) ≡ true =
                take-same (x.lot + 1) d (p ++ r ∷ []) (rw job_is at a) in
                and_left _ _ (extends-not_before d (p ++ r ∷ []) own) ∙ sym gone
            | inr a ↦
                let k = split_of d p e in
                let lot_same : same (take x.lot d) (take x.lot (p ++ r ∷ [])) ≡ true =
                cc (
                  k.1,
                  take-append-le x.lot p k.0 (omega arith),
                  take_all x.lot p (omega arith),
                  lot_is,
                  same-self p,
                ) in
                let long : length (p ++ r ∷ []) ≡ length p + 1 = length-append p (r ∷ []) in
                and_right _ _
                (not_from_true _
                (and_from _ _ (le-leb (x.lot + 1) (length (p ++ r ∷ [])) (omega arith))
                (and_from _ _ lot_same (not_from_false _ a)))) ∙ sym gone
          ]

-- the prefixes that begin with j are j and those below it
map-filter : (f : List ℕ → Bool) (r : ℕ) (ls : List (List ℕ))
    → filter f (map (λ s. r ∷ s) ls) ≡ map (λ s. r ∷ s) (filter (λ s. f (r ∷ s)) ls)
map-filter f r [] = refl
map-filter f r (l ∷ ls) =
    elim (f (r ∷ l)) as
    (λ b. cond b ((r ∷ l) ∷ filter f (map (λ s. r ∷ s) ls)) (filter f (map (λ s. r ∷ s) ls))
    ≡ map (λ s. r ∷ s) (cond b (l ∷ filter (λ s. f (r ∷ s)) ls) (filter (λ s. f (r ∷ s)) ls))) [
      | true ↦ cc (map-filter f r ls)
      | false ↦ map-filter f r ls
    ]

filter-all : (ls : List (List ℕ)) → filter (λ s. true) ls ≡ ls
filter-all [] = refl
filter-all (l ∷ ls) = cc (filter-all ls)

abbrev begun : ℕ → ℕ → ℕ → List (List ℕ)
begun b k r = map (λ s. r ∷ s) ([] ∷ lists b k)

only : (b k r : ℕ) (j : List ℕ) (n : ℕ) → r < n
    → filter (λ s. extends s (r ∷ j)) (flat_map (begun b k) (falling n))
    ≡ map (λ s. r ∷ s) (filter (λ s. extends s j) ([] ∷ lists b k))
only b k r j n low = go n low
  where
    other : (m : ℕ) → m ≢ r → filter (λ s. extends s (r ∷ j)) (begun b k m) ≡ []
    other m ne =
        filter-none (λ s. extends s (r ∷ j)) (begun b k m)
        (each-map (λ s. extends s (r ∷ j) ≡ false) (λ s. m ∷ s) ([] ∷ lists b k)
        (each-all _ ([] ∷ lists b k) (λ s. and_left _ _ (ne_eqb m r ne))))

    own : filter (λ s. extends s (r ∷ j)) (begun b k r) ≡ map (λ s. r ∷ s) (filter (λ s. extends s j) ([] ∷ lists b k))
    own = cc (
      map-filter (λ s. extends s (r ∷ j)) r ([] ∷ lists b k),
      filter_agree (λ s. eqb r r && extends s j) (λ s. extends s j)
          (λ s. ap (λ z. z && extends s j) (eq-eqb r r refl)) ([] ∷ lists b k),
    )

    past : (m : ℕ) → m ≤ r → filter (λ s. extends s (r ∷ j)) (flat_map (begun b k) (falling m)) ≡ []
    past zero le = refl
    past (suc m) le = let ne : m ≢ r = λ z. omega arith in
        cc (
          filter-append (λ s. extends s (r ∷ j)) (begun b k m) (flat_map (begun b k) (falling m)),
          other m ne,
          past m (omega arith),
        )

    go : (n : ℕ) → r < n
        → filter (λ s. extends s (r ∷ j)) (flat_map (begun b k) (falling n))
        ≡ map (λ s. r ∷ s) (filter (λ s. extends s j) ([] ∷ lists b k))
    go zero low = absurd (omega arith)
    go (suc m) low = elim (cases_Bool (eqb m r)) [
      | inl a ↦
          let e = eqb-true m r a in
          cc (
            filter-append (λ s. extends s (r ∷ j)) (begun b k m) (flat_map (begun b k) (falling m)),
            e,
            own,
            past m (omega arith),
            append-nil _,
          )
      | inr a ↦
          let ne : m ≢ r = λ z. let w = eq-eqb m r z in absurd (cc (w, a)) in
          cc (
            filter-append (λ s. extends s (r ∷ j)) (begun b k m) (flat_map (begun b k) (falling m)),
            other m ne,
            go m (omega arith),
          )
    ]

-- each row is below b
abbrev pub Ranged : ℕ → List ℕ → Type 0
Ranged b [] = Unit {0}
Ranged b (r ∷ s) = (r < b) × Ranged b s

-- those of the lists that begin with a nonempty j
pub beginning : (b k : ℕ) (r : ℕ) (j : List ℕ) → Ranged b (r ∷ j)
    → filter (λ s. extends s (r ∷ j)) (lists b (suc (length j + k))) ≡ map (λ s. (r ∷ j) ++ s) ([] ∷ lists b k)
unfolding lists
beginning b k r [] h =
    let e : 0 + k ≡ k = omega arith in
    cc (only b (0 + k) r [] b h.0, filter-all ([] ∷ lists b (0 + k)), e)
beginning b k r (q ∷ j) h =
    let e : suc (length j) + k ≡ suc (length j + k) = omega arith in
    cc (
      only b (suc (length j) + k) r (q ∷ j) b h.0,
      e,
      beginning b k q j h.1,
      map-map (λ s. r ∷ s) (λ s. (q ∷ j) ++ s) ([] ∷ lists b k),
    )
