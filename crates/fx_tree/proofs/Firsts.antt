-- The first of least pattern is what the definitions compute.
use Rattle.std.proofs.Common.{◌≡◌, ℕ, ◌<◌, ◌+◌, Bool, true, false, not, ◌&&◌, ◌||◌, List, [], ◌∷◌, Option, Some, None}
use Rattle.std.proofs.Common.{refl, sym, subst, ap, ◌∙◌, inl, inr}
use Rattle.std.specs.List.{filter, find, list_all, AllByRecursion}
use Rattle.std.proofs.lemmas.Bool.{cond-true, cond-false, cases_Bool, and_parts, and_from, false_from_ne_true, not-true}
use Rattle.std.proofs.lemmas.Bool.{not_from_false}
use Rattle.fx_base.proofs.Lists.{find_agree, find-filter}
use Rattle.fx_base.specs.Members.{Has}
use Rattle.fx_base.proofs.Members.{has-each}
use Rattle.fx_designs.specs.Galois.{IsField}
use Rattle.fx_designs.specs.Problems.{Problem}
use Rattle.fx_designs.specs.Patterns.{pattern_of, is_less}
use Rattle.fx_designs.specs.Answers.{before, prefixes, is_design, is_of_least_pattern, designs, answer}
use Rattle.fx_laws.specs.Trees.{tree_of, is_tree_design}
use Rattle.fx_laws.proofs.Order.{Sorted, first_found, none_found, lists-sorted, before-not, before-self}
use Rattle.fx_designs.specs.Jobs.{first_least, best_of}
use Rattle.fx_tree.specs.Ranked.{Ranked, IsRanked, IsFirstLeast}
use Rattle.fx_tree.specs.Search.{ranked}
use Rattle.fx_tree.proofs.Best.{clash, same_tests}
use Rattle.fx_tree.proofs.Branches.{design-in}
use Rattle.fx_tree.proofs.Patterns.{is-ranked}
use Rattle.fx_tree.proofs.Nodes.{design-same}

pub all-kept : (C g : List ℕ → Bool) (xs : List (List ℕ)) → ((y : List ℕ) → C y ≡ true → g y ≡ true)
    → list_all g (filter C xs) ≡ true
all-kept C g [] h = refl
all-kept C g (x ∷ xs) h = elim (cases_Bool (C x)) [
  | inl a ↦ cc (cond-true (C x) (x ∷ filter C xs) _ a, and_from _ _ (h x a) (all-kept C g xs h))
  | inr a ↦ cc (cond-false (C x) (x ∷ filter C xs) _ a, all-kept C g xs h)
]

pub all-at : (C g : List ℕ → Bool) (xs : List (List ℕ)) (b : List ℕ) → Has b xs → C b ≡ true
    → list_all g (filter C xs) ≡ true → g b ≡ true
all-at C g [] b there own h = absurd there
all-at C g (x ∷ xs) b there own h = elim (cases_Bool (C x)) [
  | inl a ↦
      let parts =
      and_parts (g x) (list_all g (filter C xs)) (cc (cond-true (C x) (x ∷ filter C xs) _ a, h))
      in
      elim there [ inl e ↦ rw e parts.0 | inr k ↦ all-at C g xs b k own parts.1 ]
  | inr a ↦
      let rest = sym (ap (list_all g) (cond-false (C x) (x ∷ filter C xs) _ a)) ∙ h in
      elim there [ inl e ↦ clash (C x) (cc (e, own)) a | inr k ↦ all-at C g xs b k own rest ]
]

-- among the items of a list, the first of least pattern
module _ (x : Ranked) (law : IsRanked x) (D : List ℕ → Bool) where
  abbrev FirstIn : List (List ℕ) → Option (List ℕ) → Type 0
  FirstIn xs None = (d : List ℕ) → Has d xs → D d ≡ true → ⊥
  FirstIn xs (Some b) =
      (D b ≡ true) × ((d : List ℕ) → Has d xs → D d ≡ true → x.less d b ≡ false)
      × ((d : List ℕ) → Has d xs → D d ≡ true → before d b ≡ true → x.less b d ≡ true)

  self-less : (c : List ℕ) → x.less c c ≡ false
  self-less c = false_from_ne_true (x.less c c) (λ z. clash (x.less c c) z (law.not_both c c z))

  alone : (y : List ℕ) (ys : List (List ℕ)) → AllByRecursion (λ z. before y z ≡ true) ys → D y ≡ true
      → ((d : List ℕ) → Has d ys → D d ≡ true → x.less d y ≡ false) → FirstIn (y ∷ ys) (Some y)
  alone y ys late own h = (
    own,
    λ d there e. elim there [ inl is ↦ rw is (self-less y) | inr k ↦ h d k e ],
    λ d there e first. elim there [
      | inl is ↦ clash (before y y) (rw is at first) (before-self y)
      | inr k ↦ clash (before d y) first (before-not y d (has-each (λ z. before y z ≡ true) d ys late k))
    ],
  )

  first_in : (xs : List (List ℕ)) → Sorted xs → (o : Option (List ℕ)) × FirstIn xs o
  first_in [] h = (None, λ d there e. there)
  first_in (y ∷ ys) h =
      let rest = first_in ys h.1 in
      elim (cases_Bool (D y)) [
        | inr out ↦ (rest.0, skip rest.0 out rest.1)
        | inl own ↦ more rest.0 own rest.1
      ]
    where
      skip : (o : Option (List ℕ)) → D y ≡ false → FirstIn ys o → FirstIn (y ∷ ys) o
      skip None out k =
          λ d there e. elim there [ inl is ↦ clash (D d) e (rw is out) | inr t ↦ k d t e ]
      skip (Some b) out k = (
        k.0,
        λ d there e. elim there [ inl is ↦ clash (D d) e (rw is out) | inr t ↦ k.1 d t e ],
        λ d there e first. elim there
            [ inl is ↦ clash (D d) e (rw is out) | inr t ↦ k.2 d t e first ],
      )

      more : (o : Option (List ℕ)) → D y ≡ true → FirstIn ys o → (o : Option (List ℕ)) × FirstIn (y ∷ ys) o
      more None own k = (Some y, alone y ys h.0 own (λ d t e. absurd (k d t e)))
      more (Some b) own k = elim (cases_Bool (x.less b y)) [
        | inl low ↦ (
          Some b,
          (
            k.0,
            λ d there e. elim there
                [ inl is ↦ rw is (law.not_both b y low) | inr t ↦ k.1 d t e ],
            λ d there e first. elim there
                [ inl is ↦ rw is low | inr t ↦ k.2 d t e first ],
          ),
        )
        | inr high ↦ (
          Some y,
          alone y ys h.0 own
              (λ d t e. false_from_ne_true _ (λ z. clash (x.less d b) (law.apart d y b z high) (k.1 d t e))),
        )
      ]

  -- where all that pass stand in the list, it is the first of least pattern of all
  pub first_exists : (xs : List (List ℕ)) → Sorted xs → ((d : List ℕ) → D d ≡ true → Has d xs)
      → (o : Option (List ℕ)) × IsFirstLeast x D o
  first_exists xs sorted all = let k = first_in xs sorted in (k.0, go k.0 k.1)
    where
      go : (o : Option (List ℕ)) → FirstIn xs o → IsFirstLeast x D o
      go None h = λ d e. h d (all d e) e
      go (Some b) h = (h.0, λ d e. h.1 d (all d e) e, λ d e first. h.2 d (all d e) e first)

module _ (p : Problem) (f : IsField p.dimensions.q) (some : 0 < p.dimensions.s + p.dimensions.t) where
  abbrev x : Ranked
  x = ranked p

  abbrev law : IsRanked (ranked p)
  law = is-ranked p f

  abbrev least_of : List (List ℕ) → List ℕ → Bool
  least_of ms rows = list_all (λ other. not (is_less (pattern_of p.dimensions other) (pattern_of p.dimensions rows))) ms

  -- the definition computes it
  pub first_is : (D : List ℕ → Bool) (xs : List (List ℕ)) → Sorted xs → ((d : List ℕ) → D d ≡ true → Has d xs)
      → (o : Option (List ℕ)) → IsFirstLeast x D o → find (least_of (filter D xs)) (filter D xs) ≡ o
  first_is D xs sorted all None h =
      find-filter D (least_of (filter D xs)) xs ∙ none_found (λ y. D y && least_of (filter D xs) y) xs
      (λ d e. h d (and_parts (D d) _ e).0)
  first_is D xs sorted all (Some b) h =
      find-filter D (least_of (filter D xs)) xs
      ∙ first_found (λ y. D y && least_of (filter D xs) y) xs b sorted (all b h.0)
      (and_from _ _ h.0
      (all-kept D (λ other. not (is_less (pattern_of p.dimensions other) (pattern_of p.dimensions b))) xs
      (λ y e. not_from_false _ (h.1 y e))))
      (λ e passes first.
      let parts = and_parts (D e) _ passes in
      let none =
      all-at D (λ other. not (is_less (pattern_of p.dimensions other) (pattern_of p.dimensions e))) xs b (all b h.0)
      h.0 parts.1 in
      clash (x.less b e) (h.2 e parts.0 first) (not-true _ none))

  abbrev designs_that : (List ℕ → Bool) → List ℕ → Bool
  designs_that test d = is_tree_design (tree_of p) d && test d

  there : (test : List ℕ → Bool) (d : List ℕ) → designs_that test d ≡ true → Has d (prefixes p)
  there test d h = design-in x law d (and_parts _ (test d) h).0 some

  module _ (least : p.least ≡ true) where
    pub best-is : (test : List ℕ → Bool) (o : Option (List ℕ)) → IsFirstLeast x (designs_that test) o
        → best_of p test ≡ o
    unfolding first_least
    best-is test o h =
        cond-true p.least _ _ least ∙ first_is (designs_that test) (prefixes p) (lists-sorted _ _) (there test) o h

    pub best-least : (test : List ℕ → Bool) → IsFirstLeast x (designs_that test) (best_of p test)
    best-least test =
        let k = first_exists x law (designs_that test) (prefixes p) (lists-sorted _ _) (there test) in
        subst (IsFirstLeast x (designs_that test)) (sym (best-is test k.0 k.1)) k.1

    -- the answer is the first of least pattern of all designs
    pub answer-least : (o : Option (List ℕ)) → IsFirstLeast x (is_tree_design (tree_of p)) o → answer p ≡ o
    unfolding answer designs
    answer-least o h =
        find_agree (λ rows. not p.least || is_of_least_pattern p rows) (is_of_least_pattern p)
        (λ rows. cc least) (designs p)
        ∙ first_is (is_design p) (prefixes p) (lists-sorted _ _)
        (λ d e. design-in x law d (sym (design-same p f d) ∙ e) some) o
        (same_tests x (is_tree_design (tree_of p)) (is_design p) (λ d. sym (design-same p f d)) o h)

    -- so it is the first of least pattern
    pub answer-is-first : (o : Option (List ℕ)) → answer p ≡ o → IsFirstLeast x (is_design p) o
    answer-is-first o is =
        let all : List ℕ → Bool = λ d. true in
        let h = same_tests x (designs_that all) (is_tree_design (tree_of p))
        (λ d. and_true (is_tree_design (tree_of p) d)) (best_of p all) (best-least all) in
        subst (IsFirstLeast x (is_design p)) (sym (answer-least (best_of p all) h) ∙ is)
        (same_tests x (is_tree_design (tree_of p)) (is_design p) (λ d. sym (design-same p f d)) (best_of p all) h)
      where
        and_true : (b : Bool) → (b && true) ≡ b
        and_true true = refl
        and_true false = refl
