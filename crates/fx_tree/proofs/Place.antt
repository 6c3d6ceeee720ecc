-- Where designs stand that begin with a prefix, and which count for its children.
use Rattle.std.proofs.Common.{◌≡◌, ◌≢◌, ℕ, zero, suc, ◌+◌, ◌<◌, ◌≤◌, Bool, true, false, not, ◌&&◌, ◌||◌, eqb, ltb, leb}
use Rattle.std.proofs.Common.{List, [], ◌∷◌, ◌++◌, length, take, get_or, refl, sym, ap, ap₂, ◌∙◌, inl, inr, arith}
use Rattle.std.proofs.Common.{subst, eq-eqb, lt-ltb, le-ltb, le-leb, eqb-true, append_assoc, append-nil, length-append}
use Rattle.std.specs.List.{filter, list_any}
use Rattle.std.proofs.lemmas.Bool.{cond-true, cond-false, cases_Bool, and_from, and_left, and_right, or_left, or_right}
use Rattle.std.proofs.lemmas.Bool.{or_from, and_parts, not_from_true, not_from_false}
use Rattle.std.proofs.lemmas.List.{take-append-le}
use mathlib.Core.Bool.{or-false}
use Rattle.fx_base.proofs.Lists.{list_any_agree}
use Rattle.fx_designs.specs.Vectors.{same}
use Rattle.fx_designs.specs.Answers.{falling, before}
use Rattle.fx_laws.specs.Trees.{is_tree_design, children_of}
use Rattle.fx_laws.proofs.Candidates.{closed-append}
use Rattle.fx_laws.proofs.Order.{before-trans}
use Rattle.fx_laws.proofs.Weights.{same-self}
use Rattle.fx_tree.specs.Ranked.{Ranked, IsRanked, counts_for, extends, is_counted, is_counted_through}

pub split_of : (d p : List ℕ) → extends d p ≡ true → (s : List ℕ) × (d ≡ p ++ s)
split_of d [] h = (d, refl)
split_of [] (b ∷ q) h = absurd (cc h)
split_of (a ∷ d) (b ∷ q) h =
    let parts = and_parts (eqb a b) (extends d q) h in
    let k = split_of d q parts.1 in
    let e = eqb-true a b parts.0 in
    (k.0, cc (e, k.1))

pub extends-append : (p s : List ℕ) → extends (p ++ s) p ≡ true
extends-append [] s = refl
extends-append (a ∷ p) s = and_from _ _ (eq-eqb a a refl) (extends-append p s)

pub extends-shift : (p s t : List ℕ) → extends (p ++ s) (p ++ t) ≡ extends s t
extends-shift [] s t = refl
extends-shift (a ∷ p) s t = cc (eq-eqb a a refl, extends-shift p s t)

pub extends-less : (d p t : List ℕ) → extends d p ≡ false → extends d (p ++ t) ≡ false
extends-less d [] t h = absurd (cc h)
extends-less [] (b ∷ q) t h = refl
extends-less (a ∷ d) (b ∷ q) t h =
    elim (cases_Bool (eqb a b)) [
      | inl e ↦ and_right _ _ (extends-less d q t (cc (e, h)))
      | inr e ↦ and_left _ _ e
    ]

pub before-shift : (p x y : List ℕ) → before (p ++ x) (p ++ y) ≡ before x y
before-shift [] x y = refl
before-shift (a ∷ p) x y =
    cc (le-ltb a a (omega arith), eq-eqb a a refl, before-shift p x y)

pub before-longer : (d p : List ℕ) (t : List ℕ) → before d p ≡ true → before d (p ++ t) ≡ true
before-longer d p [] h = rw (append-nil p) h
before-longer d p (b ∷ t) h =
    let e : before p (p ++ b ∷ t) ≡ true =
    cc (append-nil p, before-shift p [] (b ∷ t)) in
    before-trans d p (p ++ b ∷ t) h e

pub extends-not_before : (d p : List ℕ) → extends d p ≡ true → before d p ≡ false
extends-not_before d p h =
    let k = split_of d p h in
    ap₂ before k.1 (sym (append-nil p)) ∙ before-shift p k.0 []

-- a list that does not begin with p stands to what begins with p as to p
pub before-apart : (d p t : List ℕ) → length p ≤ length d → extends d p ≡ false → before d (p ++ t) ≡ before d p
before-apart d [] t low h = absurd (cc h)
before-apart [] (b ∷ q) t low h = absurd (omega arith)
before-apart (a ∷ d) (b ∷ q) t low h =
    elim (cases_Bool (eqb a b)) [
      | inl e ↦ cc (before-apart d q t (omega arith) (ap (λ z. z && extends d q) (sym e) ∙ h))
      | inr e ↦ cc e
    ]

pub take-same : (k : ℕ) (d p : List ℕ) → same (take k d) p ≡ true → extends d p ≡ true
take-same k d [] h = refl
take-same zero d (b ∷ q) h = absurd (cc h)
take-same (suc k) [] (b ∷ q) h = absurd (cc h)
take-same (suc k) (a ∷ d) (b ∷ q) h = let parts = and_parts (eqb a b) (same (take k d) q) h in
    and_from _ _ parts.0 (take-same k d q parts.1)

-- in a falling list those before the one at i are the greater ones
below-all : (q : ℕ → Bool) (n i : ℕ) → i < length (filter q (falling n)) → get_or (filter q (falling n)) i 0 < n
below-all q zero i h = absurd (omega arith)
below-all q (suc n) i h =
    elim (cases_Bool (q n)) [
      | inl a ↦ let e : filter q (falling (suc n)) ≡ n ∷ filter q (falling n) = cond-true (q n) _ _ a in
          rw e (go i (subst (λ l. i < length l) e h) (below-all q n))
      | inr a ↦ let e : filter q (falling (suc n)) ≡ filter q (falling n) = cond-false (q n) _ _ a in let z =
          below-all q n i (rw e at h) in
          rw e (let w : get_or (filter q (falling n)) i 0 < suc n = omega arith in w)
    ]
  where
    go : (i : ℕ) → i < length (n ∷ filter q (falling n))
        → ((j : ℕ) → j < length (filter q (falling n)) → get_or (filter q (falling n)) j 0 < n)
        → get_or (n ∷ filter q (falling n)) i 0 < suc n
    go zero h rest = omega arith
    go (suc i) h rest = let z = rest i (omega arith) in omega arith

abbrev hits : ℕ → ℕ → Bool
hits r j = eqb r j && true

pub falling-any : (q : ℕ → Bool) (r : ℕ) → q r ≡ true → (n i : ℕ) → r < n → i < length (filter q (falling n))
    → list_any (hits r) (take i (filter q (falling n))) ≡ ltb (get_or (filter q (falling n)) i 0) r
falling-any q r on zero i low h = absurd (omega arith)
falling-any q r on (suc n) i low h =
    elim (cases_Bool (q n)) [
      | inl a ↦
          let e : filter q (falling (suc n)) ≡ n ∷ filter q (falling n) = cond-true (q n) _ _ a in
          rw e (go i (subst (λ l. i < length l) e h) (λ j k m. falling-any q r on n j k m))
      | inr a ↦
          let e : filter q (falling (suc n)) ≡ filter q (falling n) = cond-false (q n) _ _ a in
          let ne : r ≢ n = λ z. let w = ap q (sym z) ∙ on in absurd (cc (w, a)) in
          rw e (falling-any q r on n i (omega arith) (subst (λ l. i < length l) e h))
    ]
  where
    go : (i : ℕ) → i < length (n ∷ filter q (falling n))
        → ((j : ℕ) → r < n → j < length (filter q (falling n))
        → list_any (hits r) (take j (filter q (falling n))) ≡ ltb (get_or (filter q (falling n)) j 0) r) →
        list_any (hits r) (take i (n ∷ filter q (falling n))) ≡ ltb (get_or (n ∷ filter q (falling n)) i 0) r
    go zero h rest = sym (le-ltb n r (omega arith))
    go (suc i) h rest = elim (cases_Bool (eqb r n)) [
      | inl a ↦
          let z = below-all q n i (omega arith) in
          let e = eqb-true r n a in
          or_left _ _ (and_from _ _ a refl) ∙ sym (lt-ltb _ _ (omega arith))
      | inr a ↦ let ne : r ≢ n = λ z. let w = eq-eqb r n z in absurd (cc (w, a)) in
          cc (a, rest i (omega arith) (omega arith))
    ]

pub falling-all : (q : ℕ → Bool) (r n : ℕ) → q r ≡ true → r < n → list_any (hits r) (filter q (falling n)) ≡ true
falling-all q r zero on low = absurd (omega arith)
falling-all q r (suc n) on low =
    elim (cases_Bool (q n)) [
      | inl a ↦
          ap (list_any (hits r)) (cond-true (q n) (n ∷ filter q (falling n)) _ a)
          ∙ (elim (cases_Bool (eqb r n)) [
            | inl b ↦ or_left _ _ (and_from _ _ b refl)
            | inr b ↦ let ne : r ≢ n = λ z. let w = eq-eqb r n z in absurd (cc (w, b)) in
                or_right _ _ (falling-all q r n on (omega arith))
          ])
      | inr a ↦
          let ne : r ≢ n = λ z. let w = ap q (sym z) ∙ on in absurd (cc (w, a)) in
          cc (cond-false (q n) (n ∷ filter q (falling n)) _ a, falling-all q r n on (omega arith))
    ]

pub any-never : {X : Type 0} (f : X → Bool) → ((x : X) → f x ≡ false) → (xs : List X) → list_any f xs ≡ false
any-never f h [] = refl
any-never f h (x ∷ xs) = or_from _ _ (h x) (any-never f h xs)

module _ (x : Ranked) (law : IsRanked x) (p : List ℕ) (part : length p < x.tree.size) where
  abbrev rows : List ℕ
  rows = children_of x.tree p

  -- whether d begins with one of these children
  abbrev pub of_child : List ℕ → List ℕ → Bool
  of_child rs d = list_any (λ r. extends d (p ++ r ∷ [])) rs

  -- a design that begins with p goes on with a child
  pub goes_on : (d : List ℕ) → is_tree_design x.tree d ≡ true → extends d p ≡ true
      → (r : ℕ) × (s : List ℕ) × (d ≡ p ++ r ∷ s) × (x.tree.canonical (p ++ r ∷ []) ≡ true)
  goes_on d h e =
      let k = split_of d p e in
      go k.0 k.1
    where
      go : (s : List ℕ) → d ≡ p ++ s
          → (r : ℕ) × (s : List ℕ) × (d ≡ p ++ r ∷ s) × (x.tree.canonical (p ++ r ∷ []) ≡ true)
      go [] z =
          let full =
          eqb-true (length d) x.tree.size
          (and_parts (eqb (length d) x.tree.size) (x.tree.canonical d && x.tree.allowed d) h).0 in
          let long : length d ≡ length p = ap length (z ∙ append-nil p) in
          absurd (omega arith)
      go (r ∷ s) z =
          let can = (and_parts (x.tree.canonical d) (x.tree.allowed d)
          (and_parts (eqb (length d) x.tree.size) (x.tree.canonical d && x.tree.allowed d) h).1).0 in
          let w : x.tree.canonical ((p ++ r ∷ []) ++ s) ≡ true =
          rw (z ∙ sym (append_assoc p (r ∷ []) s)) at can in
          (r, s, z, closed-append x.tree.canonical law.tree.canonical (p ++ r ∷ []) s w)

  pub child_of : (d : List ℕ) (r : ℕ) (s : List ℕ) → d ≡ p ++ r ∷ s → (rs : List ℕ)
      → of_child rs d ≡ list_any (hits r) rs
  child_of d r s z rs =
      list_any_agree (λ j. extends d (p ++ j ∷ [])) (hits r)
      (λ j. cc (z, extends-shift p (r ∷ s) (j ∷ []))) rs

  -- at the end every design from p on has been seen
  pub all_children : (d : List ℕ)
      → is_counted_through x p d ≡ (is_counted x p d || (is_tree_design x.tree d && of_child rows d))
  all_children d =
      elim (cases_Bool (is_tree_design x.tree d)) [
        | inr out ↦
            cc out
        | inl h ↦ ap (λ b. is_counted x p d || (is_tree_design x.tree d && b)) (elim (cases_Bool (extends d p)) [
          | inl e ↦ let k = goes_on d h e in
              e ∙ sym (child_of d k.0 k.1 k.2 rows ∙ falling-all (λ r. x.tree.canonical (p ++ r ∷ [])) k.0 x.tree.rows
              k.3 (law.ranged p k.0 k.3))
          | inr e ↦ e ∙ sym (any-never (λ r. extends d (p ++ r ∷ [])) (λ r. extends-less d p (r ∷ []) e) rows)
        ])
      ]

  module _ (job : x.lot < length p) (i : ℕ) (low : i < length rows) where
    abbrev r : ℕ
    r = get_or rows i 0

    -- which designs count for the child at i
    pub child_seen : (d : List ℕ)
        → is_counted x (p ++ r ∷ []) d ≡ (is_counted x p d || (is_tree_design x.tree d && of_child (take i rows) d))
    child_seen d =
        elim (cases_Bool (is_tree_design x.tree d)) [
          | inr out ↦ and_left _ _ out ∙ sym (or_from _ _ (and_left _ _ out) (and_left _ _ out))
          | inl h ↦
              let full =
              eqb-true (length d) x.tree.size
              (and_parts (eqb (length d) x.tree.size) (x.tree.canonical d && x.tree.allowed d) h).0 in
              let long : length (p ++ r ∷ []) ≡ length p + 1 = length-append p (r ∷ []) in
              ap (λ b. b && counts_for x d (p ++ r ∷ [])) h
              ∙ (elim (cases_Bool (extends d p)) [
                | inl e ↦
                    let k = goes_on d h e in
                    let own : of_child (take i rows) d ≡ ltb r k.0 =
                    child_of d k.0 k.1 k.2 (take i rows) ∙ falling-any (λ j. x.tree.canonical (p ++ j ∷ [])) k.0 k.3
                    x.tree.rows i (law.ranged p k.0 k.3) low in
                    let here : before d (p ++ r ∷ []) ≡ ltb r k.0 =
                    cc (k.2, before-shift p (k.0 ∷ k.1) (r ∷ []), plain (ltb r k.0) (eqb k.0 r)) in
                    let job_same : same (take (x.lot + 1) d) (take (x.lot + 1) (p ++ r ∷ [])) ≡ true =
                    cc (
                      k.2,
                      take-append-le (x.lot + 1) p (k.0 ∷ k.1) (omega arith),
                      take-append-le (x.lot + 1) p (r ∷ []) (omega arith),
                      same-self (take (x.lot + 1) p),
                    ) in
                    let free : not
                    (leb (x.lot + 1) (length (p ++ r ∷ []))
                    && (same (take x.lot d) (take x.lot (p ++ r ∷ []))
                    && not (same (take (x.lot + 1) d) (take (x.lot + 1) (p ++ r ∷ []))))) ≡ true =
                    not_from_false _ (and_right _ _ (and_right _ _ (not_from_true _ job_same))) in
                    let gone : counts_for x d p ≡ false = and_left _ _ (extends-not_before d p e) in
                    unit _ _ free ∙ here ∙ sym (ap₂ (λ a b. (a && b) || (a && of_child (take i rows) d)) h gone ∙ own)
                | inr e ↦
                    let none : of_child (take i rows) d ≡ false =
                    any-never (λ j. extends d (p ++ j ∷ [])) (λ j. extends-less d p (j ∷ []) e) (take i rows) in
                    let same_counts : counts_for x d (p ++ r ∷ []) ≡ counts_for x d p =
                    cc (
                      before-apart d p (r ∷ []) (omega arith) e,
                      le-leb (x.lot + 1) (length (p ++ r ∷ [])) (omega arith),
                      le-leb (x.lot + 1) (length p) (omega arith),
                      take-append-le x.lot p (r ∷ []) (omega arith),
                      take-append-le (x.lot + 1) p (r ∷ []) (omega arith),
                    ) in
                    same_counts ∙ sym
                    (ap₂ (λ a b. (a && counts_for x d p) || (a && b)) h none ∙ or-false (counts_for x d p))
              ])
        ]
      where
        plain : (a b : Bool) → (a || (b && false)) ≡ a
        plain true b = refl
        plain false true = refl
        plain false false = refl

        unit : (a b : Bool) → b ≡ true → (a && b) ≡ a
        unit true b z = z
        unit false b z = refl
