-- What the names of a listing's rules mean.
use Rattle.std.proofs.Common.{ℕ, ◌≡◌, ◌<◌, ◌≤◌, ◌+◌, zero, suc, Bool, true, false, List, [], ◌∷◌, ◌++◌, length, map}
use Rattle.std.proofs.Common.{get_or}
use Rattle.std.proofs.Common.{refl, sym, ap, ◌∙◌, arith, rules, inl, inr}
use Rattle.std.specs.Prelude.{Some, None, ◌==◌, ◌&&◌, ◌||◌, not, nat_lt, position}
use Rattle.std.specs.List.{list_all, prefix_len, range_with_len, AllByRecursion}
use Rattle.std.specs.Char.{to_ascii_lowercase}
use Rattle.std.specs.Fmt.{digits as fmt_digits}
use Rattle.std.proofs.lemmas.Bool.{and_parts, cases_Bool, cases_lt, ne_eqb, lt-leb, le-leb, le-ltb, lt-ltb, ltb-true}
use Rattle.std.proofs.lemmas.Bool.{ltb-false}
use Rattle.fx_lexer.specs.Bytes.{is_word_byte}
use Rattle.fx_text.specs.Names.{IsName, is_same_name, place_of}
use Rattle.std.specs.List.{IsDistinct}
use Rattle.std.specs.Prelude.{codes, bytes_eq}
use Rattle.std.proofs.lemmas.Slice.Eq.{bytes_eq-Decides}
use Rattle.std.proofs.lemmas.List.Elements.{recursion_from_All}
use Rattle.fx_vectors.specs.declared.shape.Shape.{Shape}
use Rattle.fx_vectors.specs.Shape.{IsShape}
use Rattle.fx_alias.specs.Rules.{Subject, block_factor, block_name, block_names, factor, subjects}
use Rattle.fx_rules.specs.Naming.{first_from, is_block_name, is_numbered, place_in}
use Rattle.fx_rules.specs.Reading.{goes_on, is_formed}
use Rattle.fx_rules.proofs.Moving.{goes_all, is_one}
use Rattle.fx_rules.specs.Laws.{AreFactors}
use Rattle.fx_rules.proofs.ReadProducts.{IsWord}
use Rattle.fx_rules.proofs.ReadLines.{From}
use Rattle.fx_text.proofs.Distinct.{same_turned}

-- whether each number below n passes
abbrev pub each_below : ℕ → (ℕ → Bool) → Bool
each_below zero p = true
each_below (suc n) p = p n && each_below n p

pub each_passes : (p : ℕ → Bool) (n k : ℕ) → each_below n p ≡ true → k < n → p k ≡ true
each_passes p zero k h low = absurd (omega arith)
each_passes p (suc n) k h low =
    let parts = and_parts (p n) (each_below n p) h in
    elim (cases_lt k n) [
      | inl a ↦ each_passes p n k parts.1 a
      | inr a ↦ let e : n ≡ k = omega arith in
          rw (← e) parts.0
    ]

or_true : (a b : Bool) → a ≡ true → (a || b) ≡ true
or_true a b h = rw h

no_open : (c : ℕ) → is_word_byte c ≡ true → (c == 91) ≡ false
no_open c h = ne_eqb c 91 (λ e.
    let wrong = rw e at h in
    absurd (search (rules, wrong)))

all_go : (c : ℕ) (word w : List ℕ) → is_word_byte c ≡ true → list_all is_word_byte w ≡ true
    → goes_all (c ∷ word) w ≡ true
all_go c word [] first h = refl
all_go c word (b ∷ w) first h =
    let parts = and_parts (is_word_byte b) (list_all is_word_byte w) h in
    let letter = parts.0 in
    let other = no_open c first in
    let here : goes_on (c ∷ word) b ≡ true = rw (other, first, letter) refl in
    let rest = all_go c (word ++ b ∷ []) w first parts.1 in
    rw (here, rest)

-- letters, digits and `_` are one word
one_word : (w : List ℕ) → 0 < length w → list_all is_word_byte w ≡ true → (is_one w ≡ true) × (is_formed w ≡ true)
one_word [] some h = absurd (omega arith)
one_word (c ∷ w) some h =
    let parts = and_parts _ _ h in
    let rest = all_go c [] w parts.0 parts.1 in
    let other = no_open c parts.0 in
    (rw (or_true _ ((c == 91) || (c == 93)) parts.0, rest), rw (other, parts.0))

-- a name that has no meaning of its own in a listing
record IsPlain (name : List ℕ) : Type 0 where
  pub some : 0 < length name
  pub bytes : list_all is_word_byte name ≡ true
  pub no_zero : is_same_name (codes "0") name ≡ false
  pub no_none : is_same_name (codes "none") name ≡ false
  pub no_run : is_same_name (codes "run") name ≡ false

-- is a word
identifier_word : (name : List ℕ) → IsPlain name → IsWord name
identifier_word name h = record {
  some = h.some;
  bytes = (one_word name h.some h.bytes).0;
  formed = (one_word name h.some h.bytes).1;
  no_zero = elim (cases_Bool (bytes_eq name (codes "0"))) [
    | inl is ↦
        let e : name ≡ codes "0" = (bytes_eq-Decides name (codes "0")).0 is in
        let wrong = rw e at h.no_zero in
        absurd (search (rules, wrong))
    | inr other ↦ other
  ];
  no_none = cc (same_turned name (codes "none"));
  no_run = cc (same_turned name (codes "run"));
}

-- where none passes, each does not
each_fails : (test : List ℕ → Bool) (xs : List (List ℕ)) → position test xs ≡ None
    → AllByRecursion (λ x. test x ≡ false) xs
each_fails test xs h = elim (cases_Bool (nat_lt (prefix_len (λ x. not (test x)) xs) (length xs))) [
  | inl less ↦
      let some : position test xs ≡ Some (prefix_len (λ x. not (test x)) xs) = rw less in
      absurd (search (rules, sym some ∙ h))
  | inr all ↦ fails xs (ltb-false _ _ all)
]
  where
    fails : (xs : List (List ℕ)) → length xs ≤ prefix_len (λ x. not (test x)) xs
        → AllByRecursion (λ x. test x ≡ false) xs
    fails [] all = tt
    fails (x ∷ xs) all = elim (cases_Bool (test x)) [
      | inl is ↦ let none = rw is at all in absurd (omega arith)
      | inr other ↦ let more = rw other at all in (other, fails xs (omega arith))
    ]

all_plain : (names : List (List ℕ)) → AllByRecursion IsName names
    → AllByRecursion (λ name. is_same_name (codes "0") name ≡ false) names
    → AllByRecursion (λ name. is_same_name (codes "none") name ≡ false) names
    → AllByRecursion (λ name. is_same_name (codes "run") name ≡ false) names → AllByRecursion IsPlain names
all_plain [] h z n r = tt
all_plain (name ∷ names) h z n r = (
  record { some = (omega arith); bytes = h.0.2; no_zero = z.0; no_none = n.0; no_run = r.0 },
  all_plain names h.1 z.1 n.1 r.1,
)

same_self : (a : List ℕ) → is_same_name a a ≡ true
same_self a = let la = map to_ascii_lowercase a in (bytes_eq-Decides la la).1 refl

-- distinct names stand in their own places
own_prefix : (names : List (List ℕ)) (k : ℕ) → k < length names → IsDistinct is_same_name names
    → prefix_len (λ y. not (is_same_name (get_or names k []) y)) names ≡ k
unfolding IsDistinct
own_prefix [] k low h = absurd (omega arith)
own_prefix (name ∷ names) zero low h = rw (same_self name)
own_prefix (name ∷ names) (suc k) low h =
    let n = get_or names k [] in
    let rest = own_prefix names k (omega arith) h.1 in
    rw (same_turned n name ∙ (at_index names k (omega arith) h.0), rest) (omega arith)
  where
    at_index : (ys : List (List ℕ)) (j : ℕ) → j < length ys → AllByRecursion (λ y. is_same_name name y ≡ false) ys
        → is_same_name name (get_or ys j []) ≡ false
    at_index [] j low h = absurd (omega arith)
    at_index (y ∷ ys) zero low h = h.0
    at_index (y ∷ ys) (suc j) low h = at_index ys j (omega arith) h.1

own_place : (names : List (List ℕ)) (k : ℕ) → k < length names → IsDistinct is_same_name names
    → place_of (get_or names k []) names ≡ Some k
own_place names k low h =
    let there = lt-ltb k _ low in
    rw (own_prefix names k low h, there)

lowered : (b : ℕ) → is_word_byte b ≡ true → 91 ≡ to_ascii_lowercase b → ⊥
lowered b h e = elim (cases_lt b 65) [
  | inl low ↦
      let same = rw (lt-ltb b 65 low) at e in
      omega arith
  | inr high ↦ elim (cases_lt b 91) [
    | inl upper ↦
        let is = lt-ltb b 91 upper in
        let same = rw (le-ltb b 65 high, is) at e in
        omega arith
    | inr lower ↦
        let is = le-ltb b 91 lower in
        let same = rw (le-ltb b 65 high, is) at e in
        let wrong = rw (← same) at h in
        absurd (search (rules, wrong))
  ]
]

-- no letter is a bracket
no_bracket : (b : ℕ) → is_word_byte b ≡ true → (91 == to_ascii_lowercase b) ≡ false
no_bracket b h = ne_eqb 91 _ (λ e. lowered b h e)

none_passes : {X : Type 0} (test : X → Bool) (xs : List X) → AllByRecursion (λ x. test x ≡ false) xs
    → position test xs ≡ None
none_passes test xs h =
    let out = le-ltb (length xs) (length xs) (omega arith) in
    rw (all_front test xs h, out)
  where
    all_front : {X : Type 0} (test : X → Bool) (xs : List X) → AllByRecursion (λ x. test x ≡ false) xs
        → prefix_len (λ x. not (test x)) xs ≡ length xs
    all_front test [] h = refl
    all_front test (x ∷ xs) h = let b = all_front test xs h.1 in rw (h.0, b) (omega arith)

first_none : (test : ℕ → Bool) (k n : ℕ) → ((j : ℕ) → test j ≡ false) → first_from test k n ≡ None
first_none test k zero h = refl
first_none test k (suc n) h = let rest = first_none test (k + 1) n h in rw (h k, rest)

first_at : (test : ℕ → Bool) (i k n : ℕ) → k ≤ i → i < k + n → test i ≡ true → ((j : ℕ) → j < i → test j ≡ false)
    → first_from test k n ≡ Some i
first_at test i k zero low high is before = absurd (omega arith)
first_at test i k (suc n) low high is before = elim (cases_lt k i) [
  | inl less ↦
      let rest = first_at test i (k + 1) n (omega arith) (omega arith) is before in
      rw (before k less, rest)
  | inr more ↦
      let same : i ≡ k = omega arith in
      let e = rw same at is in
      rw e (cc)
]

-- the names of ten block factors are apart
abbrev is_apart : ℕ → ℕ → Bool
is_apart i k = not (nat_lt k i) || not (is_block_name (block_name (i + 1)) (k + 1))

abbrev is_own : ℕ → Bool
is_own i =
    is_block_name (block_name (i + 1)) (i + 1)
    && (is_one (block_name (i + 1)) && (is_formed (block_name (i + 1)) && nat_lt 0 (length (block_name (i + 1)))))

all_apart : each_below 10 (λ i. each_below 10 (is_apart i)) ≡ true
unfolding fmt_digits
all_apart = refl

all_own : each_below 10 is_own ≡ true
unfolding fmt_digits
all_own = refl

block_word : (i : ℕ) → i < 10 → IsWord (block_name (i + 1))
block_word i low =
    let parts = and_parts _ _ (each_passes is_own 10 i all_own low) in
    let more = and_parts _ _ parts.1 in
    let last = and_parts _ _ more.1 in
    record {
      some = ltb-true 0 _ last.1;
      bytes = more.0;
      formed = last.0;
      no_zero = refl;
      no_none = refl;
      no_run = refl;
    }

no_factor : (i : ℕ) (factors : List (List ℕ)) → AllByRecursion IsPlain factors
    → AllByRecursion (λ name. is_same_name (block_name (i + 1)) name ≡ false) factors
no_factor i [] h = tt
no_factor i ([] ∷ factors) h = (refl, no_factor i factors h.1)
no_factor i ((b ∷ w) ∷ factors) h = (
  rw (no_bracket b (and_parts _ _ h.0.bytes).0),
  no_factor i factors h.1,
)

module _ (shape : Shape) (factors : List (List ℕ)) (sh : IsShape shape) (each : AllByRecursion IsPlain factors) where
  block_place : (i : ℕ) → i < shape.t → place_in shape factors (block_name (i + 1)) ≡ Some (shape.s + i)
  block_place i low =
      let own = (and_parts (is_block_name (block_name (i + 1)) (i + 1)) _
      (each_passes is_own 10 i all_own (omega arith))).0 in
      let none = none_passes (is_same_name (block_name (i + 1))) factors (no_factor i factors each) in
      let unnumbered = first_none (λ k. is_numbered (block_name (i + 1)) (k + 1)) 0 shape.s (λ j. refl) in
      let there =
      first_at (λ k. is_block_name (block_name (i + 1)) (k + 1)) i 0 shape.t (omega arith) (omega arith)
      own (λ j less. earlier j less) in
      rw (none, unnumbered, there)
    where
      not_left : (a b : Bool) → (not a || not b) ≡ true → a ≡ true → b ≡ false
      not_left true true e h = absurd (search (rules, e))
      not_left true false e h = refl
      not_left false b e h = absurd (search (rules, h))

      earlier : (j : ℕ) → j < i → is_block_name (block_name (i + 1)) (j + 1) ≡ false
      earlier j less =
          let ten : i < 10 = omega arith in
          let all = each_passes (λ k. each_below 10 (is_apart k)) 10 i all_apart ten in
          let one = each_passes (is_apart i) 10 j all (omega (arith, less, ten)) in
          not_left _ _ one (lt-ltb j i less)

  blocks_from : (n i : ℕ) → i + n ≡ shape.t
      → From shape factors (shape.s + i) (map block_factor (map block_name (range_with_len (i + 1) n)))
  blocks_from zero i e = omega arith
  blocks_from (suc n) i e =
      let low : i < shape.t = omega arith in
      let same : shape.s + (i + 1) ≡ shape.s + i + 1 = omega arith in (
        block_word i (omega arith),
        block_place i low,
        sym (le-leb shape.s (shape.s + i) (omega arith)),
        rw same at (blocks_from n (i + 1) (omega arith)),
      )

  factors_from : (fs : List (List ℕ)) (k : ℕ) (rest : List Subject) → AllByRecursion IsPlain fs
      → ((j : ℕ) → j < length fs → place_of (get_or fs j []) factors ≡ Some (k + j)) → k + length fs ≤ shape.s
      → From shape factors (k + length fs) rest → From shape factors k (map factor fs ++ rest)
  factors_from [] k rest all at fits h =
      let e : k + 0 ≡ k = omega arith in rw e at h
  factors_from (f ∷ fs) k rest all at fits h =
      let place : k + 0 ≡ k = omega arith in
      let more : k + length (f ∷ fs) ≡ k + 1 + length fs = omega arith in
      let known : place_of f factors ≡ Some k = cc (at 0 (omega arith)) in
      let block = sym (lt-leb shape.s k (omega arith)) in
      let next = factors_from fs (k + 1) rest all.1
      (λ j low. at (suc j) (omega arith) ∙ ap (λ p. Some p)
      (let e : k + suc j ≡ k + 1 + j = omega arith in e))
      (omega arith) (rw more at h) in
      (identifier_word f all.0, rw known, block, next)

-- the subjects of a design
pub subjects_are : (shape : Shape) (factors : List (List ℕ)) → IsShape shape → AreFactors shape factors
    → From shape factors 0 (subjects factors (block_names shape.t))
subjects_are shape factors sh h =
    let at : (j : ℕ) → j < length factors → place_of (get_or factors j []) factors ≡ Some (0 + j) =
    λ j low. own_place factors j low h.distinct ∙ ap (λ p. Some p) (let e : j ≡ 0 + j = omega arith in e) in
    let each =
    all_plain factors (recursion_from_All IsName factors h.names)
    (each_fails _ factors h.no_zero)
    (each_fails _ factors h.no_none)
    (each_fails _ factors h.no_run) in
    let e : shape.s + 0 ≡ 0 + length factors = omega arith in
    let start : 0 + 1 ≡ 1 = omega arith in
    factors_from shape factors sh each factors 0 _ each at (omega arith)
    (rw e at (blocks_from shape factors sh each shape.t 0 (omega arith)))
