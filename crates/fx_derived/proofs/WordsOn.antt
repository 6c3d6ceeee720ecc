-- Derived levels come equally often exactly where no defining word is supported on the places.
use Rattle.std.proofs.Common.{ℕ, ◌≡◌, ◌≢◌, ◌<◌, ◌≤◌, ◌+◌, ◌-◌, ◌↔◌, zero, suc, inl, inr, true, cond}
use Rattle.std.proofs.Common.{eqb, List, [], ◌∷◌, ◌++◌, length, map, reverse, drop, get_or, refl, sym, subst, ◌∙◌, ap}
use Rattle.std.proofs.Common.{arith}
use Rattle.std.specs.Prelude.{AllPairs, Contains}
use Rattle.std.specs.List.{AllByRecursion, count_by}
use Rattle.std.proofs.lemmas.Bool.{cases_eq, cases_lt}
use Rattle.std.proofs.Math.ListN.{get_or-eq_default, get_or-map}
use Rattle.std.proofs.lemmas.List.{length-map, length-reverse, map-append, reverse-append}
use Rattle.fx_base.specs.Members.{Has}
use Rattle.fx_base.proofs.Lists.{each-append, each-weaker}
use Rattle.fx_base.proofs.Members.{contains-has, has-contains, has-last, has-left, has-right}
use Rattle.fx_designs.specs.Galois.{IsField, number}
use Rattle.fx_designs.specs.Vectors.{IsVector, combination, dot, zeros}
use Rattle.fx_designs.specs.Runs.{levels_at, points, runs_of}
use Rattle.fx_laws.proofs.Bridge.{constant_zero, zero_constant}
use Rattle.fx_laws.proofs.Constant.{constant_decides}
use Rattle.fx_laws.proofs.Linear.{dot-levels}
use Rattle.fx_laws.proofs.Space.{AreVectors, combination-vector, ext, zeros-vector}
use Rattle.fx_laws.proofs.Sums.{sum_by-ext, sum_by_map}
use Rattle.fx_reduction.specs.Meets.{AreBlocksEven}
use Rattle.fx_reduction.proofs.BlockValues.{even_blocks, uneven}
use Rattle.fx_reduction.proofs.Independent.{AreIndependent}
use Rattle.fx_derived.specs.Codes.{IsWordOn, are_levels_balanced, codes_at, derived_level, level_count}
use Rattle.fx_derived.proofs.Digits.{codes_low, number_reversed}
use Rattle.fx_derived.proofs.LevelCounts.{AreBalanced, levels_decide}
use Rattle.fx_derived.proofs.Supports.{Apart, Supported, dot-at, put-vector, put_at, put_back, put_on, same_zeros}
use Rattle.fx_derived.proofs.Supports.{zero_on, zeros_at}

-- places in reverse
turned : (p : ℕ) (places : List ℕ) → reverse (p ∷ places) ≡ reverse places ++ p ∷ []
turned p places = reverse-append (p ∷ []) places

in_reverse : (p : ℕ) (places : List ℕ) → Has p places → Has p (reverse places)
in_reverse p [] h = h
in_reverse p (r ∷ places) (inl e) =
    subst (Has p) (sym (turned r places)) (has-right p (reverse places) (r ∷ []) (inl e))
in_reverse p (r ∷ places) (inr h) =
    subst (Has p) (sym (turned r places)) (has-left p _ (r ∷ []) (in_reverse p places h))

from_reverse : (p : ℕ) (places : List ℕ) → Has p (reverse places) → Has p places
from_reverse p [] h = h
from_reverse p (r ∷ places) h =
    elim (has-last p r (reverse places) (subst (Has p) (turned r places) h)) [
      | inl there ↦ inr (from_reverse p places there)
      | inr e ↦ inl e
    ]

each_reverse : (P : ℕ → Type 0) (places : List ℕ) → AllByRecursion P places → AllByRecursion P (reverse places)
each_reverse P [] h = tt
each_reverse P (p ∷ places) h =
    subst (AllByRecursion P) (sym (turned p places))
    (each-append P _ (p ∷ []) (each_reverse P places h.1) (h.0, tt))

apart_after : (xs : List ℕ) (p : ℕ) → Apart xs → 1 ≤ p → AllByRecursion (λ r. (1 ≤ r) × (r ≢ p)) xs
    → Apart (xs ++ p ∷ [])
apart_after [] p h some others = (some, tt, tt)
apart_after (x ∷ xs) p h some others = (
  h.0,
  each-append _ xs _ h.1 ((some, (λ e. others.0.1 (sym e))), tt),
  apart_after xs p h.2 some others.1,
)

apart_reverse : (places : List ℕ) → Apart places → Apart (reverse places)
apart_reverse [] h = tt
apart_reverse (p ∷ places) h =
    subst Apart (sym (turned p places))
    (apart_after _ p (apart_reverse places h.2) h.0 (each_reverse _ places h.1))

-- places that differ, by recursion
others_differ : (p : ℕ) (places : List ℕ) → AllPairs (λ a b. a ≢ b) (p ∷ places) → (n : ℕ)
    → AllByRecursion (λ r. 1 ≤ r) places → AllByRecursion (λ r. (1 ≤ r) × (r ≢ p)) places
others_differ p [] h n some = tt
others_differ p (r ∷ places) h n some = (
  (some.0, (λ e. h 0 1 0 (omega arith) (omega arith) (sym e))),
  others_differ p places (λ i j d less low. elim (cases_eq i 0) [
    | inl e ↦ rw e (skip j d (rw e at less) low)
    | inr ne ↦ past i j d (omega arith) less low
  ]) n some.1,
)
  where
    skip : (j d : ℕ) → 0 < j → j < length (p ∷ places) → p ≢ get_or (p ∷ places) j d
    skip zero d less low = absurd (omega arith)
    skip (suc j) d less low = h 0 (suc (suc j)) d (omega arith) (omega arith)

    past : (i j d : ℕ) → 0 < i → i < j → j < length (p ∷ places) → get_or (p ∷ places) i d ≢ get_or (p ∷ places) j d
    past zero j d some less low = absurd (omega arith)
    past (suc i) zero d some less low = absurd (omega arith)
    past (suc i) (suc j) d some less low = h (suc (suc i)) (suc (suc j)) d (omega arith) (omega arith)

pub apart_from : (places : List ℕ) → AllByRecursion (λ p. 1 ≤ p) places → AllPairs (λ a b. a ≢ b) places → Apart places
apart_from [] some h = tt
apart_from (p ∷ places) some h = (
  some.0,
  others_differ p places h 0 some.1,
  apart_from places some.1 (λ i j d less low. h (suc i) (suc j) d (omega arith) (omega arith)),
)

-- the codes at places in reverse
codes_reverse : (places x : List ℕ) → codes_at (reverse places) x ≡ reverse (codes_at places x)
codes_reverse [] x = refl
codes_reverse (p ∷ places) x =
    let c = get_or x (p - 1) 0 in
    cc (
      turned p places,
      map-append (λ p. get_or x (p - 1) 0) (reverse places) (p ∷ []),
      codes_reverse places x,
      turned
          c (codes_at places x),
    )

row_vector : (q m : ℕ) (rows : List (List ℕ)) (k : ℕ) → AreVectors q m rows → k < length rows
    → IsVector q m (get_or rows k [])
row_vector q m [] k h low = absurd (omega arith)
row_vector q m (r ∷ rows) zero h low = h.0
row_vector q m (r ∷ rows) (suc k) h low = row_vector q m rows k h.1 (omega arith)

module _ (q m s : ℕ) (f : IsField q) (rows : List (List ℕ)) (hr : AreVectors q m rows) (there : s ≤ length rows)
    (places : List ℕ) (apart : Apart places)
    (inside : AllByRecursion (λ p. (1 ≤ p) × (p ≤ s)) places) where
  -- the rows at some places
  abbrev rows_at : List ℕ → List (List ℕ)
  rows_at ps = map (λ p. get_or rows (p - 1) []) ps

  abbrev back : List ℕ
  back = reverse places

  abbrev chosen : List (List ℕ)
  chosen = rows_at back

  levels_there : (ps p : List ℕ) → levels_at q (rows_at ps) p ≡ codes_at ps (levels_at q rows p)
  levels_there [] p = refl
  levels_there (r ∷ ps) p =
      cc (get_or-map (λ r. dot q r p) rows (r - 1) [], levels_there ps p)

  level_is : (x : List ℕ) → derived_level q places x ≡ number q (codes_at back x)
  level_is x = cc (codes_reverse places x, number_reversed q (codes_at places x))

  count_is : (y : ℕ)
      → level_count q places y (runs_of q m rows) ≡ count_by (λ x. eqb (number q (drop 0 x)) y) (runs_of q m chosen)
  unfolding runs_of
  count_is y =
      sum_by_map (λ x. cond (eqb (derived_level q places x) y) 1 0) (levels_at q rows) (points q m)
      ∙ sum_by-ext _ _ (points q m)
      (λ p. ap (λ n. cond (eqb n y) 1 0)
      (level_is (levels_at q rows p) ∙ ap (number q) (sym (levels_there back p))))
      ∙ sym (sum_by_map (λ x. cond (eqb (number q (drop 0 x)) y) 1 0) (levels_at q chosen) (points q m))

  abbrev k : ℕ
  k = length places

  long : length chosen ≡ k
  long = length-map back (λ p. get_or rows (p - 1) []) ∙ length-reverse places

  even_from : AreBalanced q places (runs_of q m rows) → AreBlocksEven q 0 k (runs_of q m chosen)
  even_from h y z hy hz = cc (count_is y, h y z hy hz, count_is z)

  balanced_from : AreBlocksEven q 0 k (runs_of q m chosen) → AreBalanced q places (runs_of q m rows)
  balanced_from h y z hy hz = cc (count_is y, h y z hy hz, count_is z)

  inside_back : AllByRecursion (λ p. (1 ≤ p) × (p ≤ s)) back
  inside_back = each_reverse _ places inside

  vectors_at : (ps : List ℕ) → AllByRecursion (λ p. (1 ≤ p) × (p ≤ s)) ps → AreVectors q m (rows_at ps)
  vectors_at [] h = tt
  vectors_at (p ∷ ps) h =
      (row_vector q m rows _ hr (let a = h.0.0 in let b = h.0.1 in omega arith), vectors_at ps h.1)

  chosen_vectors : AreVectors q m chosen
  chosen_vectors = vectors_at back inside_back

  back_apart : Apart back
  back_apart = apart_reverse places apart

  -- a sum is that of the entries at the places
  same_sum : (w : List ℕ) → Supported back w → combination q m (codes_at back w) chosen ≡ combination q m w rows
  same_sum w on =
      ext q m f _ _ (combination-vector q m f (codes_at back w) chosen chosen_vectors)
      (combination-vector q m f w rows hr)
      (λ p. sym (dot-levels q f m (codes_at back w) chosen p) ∙ ap (dot q (codes_at back w)) (levels_there back p)
      ∙ dot-at q f back w (levels_at q rows p) back_apart on ∙ dot-levels q f m w rows p)

  some : 0 < q
  some = omega arith

  no_word : AreBlocksEven q 0 k (runs_of q m chosen) → (w : List ℕ) → IsVector q s w → Supported back w
      → (w ≡ zeros s → ⊥) → combination q m w rows ≡ zeros m → ⊥
  no_word even w hw on nonzero e =
      let b = codes_at back w in
      let wide = length-map back (λ p. get_or w (p - 1) 0) ∙ length-reverse places in
      let hb : IsVector q k b = record { len = wide; codes = codes_low q w back some hw.codes } in
      uneven q m 0 k f chosen long chosen_vectors even b hb
      (λ z. nonzero (same_zeros s w hw.len (zero_on back w on (cc (length-reverse places)))))
      (cc (same_sum w on))

  independent :
      ((w : List ℕ) → IsVector q s w → Supported back w → (w ≡ zeros s → ⊥) → combination q m w rows ≡ zeros m → ⊥)
      → AreIndependent q m f chosen
  independent none b hb nonzero e =
      let w : List ℕ = put_at back b (zeros s) in
      let zs : IsVector q s (zeros s) = zeros-vector q s f in
      let fits : AllByRecursion (λ p. p ≤ length (zeros s)) back =
      each-weaker (λ p. (1 ≤ p) × (p ≤ s)) (λ p. p ≤ length (zeros s)) back (λ p h. rw zs.len h.1) inside_back in
      let wide : length b ≡ length back = hb.len ∙ length-map back (λ p. get_or rows (p - 1) []) in
      let is : codes_at back w ≡ b = put_back back b (zeros s) back_apart fits wide in
      let on : Supported back w = put_on back b s back_apart in
      none w (put-vector q s back b (zeros s) hb.codes zs) on
      (λ z. nonzero
      (sym is ∙ ap (codes_at back) z ∙ zeros_at back s ∙ ap zeros
      (sym (length-map back (λ p. get_or rows (p - 1) [])))))
      (sym (same_sum w on) ∙ ap (λ (l : List ℕ). combination q m l chosen) is ∙ e)

  -- what is supported on the places, in both ways of saying it
  on_back : (w : List ℕ) → IsVector q s w → ((i : ℕ) → i < s → get_or w i 0 ≢ 0 → Contains places (i + 1))
      → Supported back w
  on_back w hw h i =
      elim (cases_eq (get_or w i 0) 0) [
        | inl z ↦ inl z
        | inr ne ↦ elim (cases_lt i s) [
          | inl low ↦ (let c = h i low ne in inr (in_reverse _ places (contains-has places c.0 _ c.1 c.2)))
          | inr high ↦ inl (get_or-eq_default w 0 (omega arith))
        ]
      ]

  from_back : (w : List ℕ) → Supported back w → (i : ℕ) → i < s → get_or w i 0 ≢ 0 → Contains places (i + 1)
  from_back w on i low ne =
      elim (on i) [ inl z ↦ absurd (ne z) | inr h ↦ has-contains places _ (from_reverse _ places h) ]

  abbrev NoWord : Type 0
  NoWord = (word : List ℕ) → IsWordOn q s (runs_of q m rows) places word → ⊥

  pub words_tell : are_levels_balanced q places (runs_of q m rows) ≡ true ↔ NoWord
  words_tell = (
    λ e word w.
        no_word (even_from ((levels_decide q places (runs_of q m rows)).0 e)) word w.vector
        (on_back word w.vector w.supported) w.not_zero
        (constant_zero q m f rows word hr ((constant_decides q f word (runs_of q m rows)).0 w.constant)),
    λ none.
        let free = independent (λ w hw on nonzero e. none w (record {
          vector = hw;
          supported = from_back w on;
          not_zero = nonzero;
          constant = (constant_decides q f w (runs_of q m rows)).1 (zero_constant q m f rows w e);
        })) in
        (levels_decide q places (runs_of q m rows)).1
        (balanced_from (even_blocks q m 0 k f chosen long chosen_vectors free)),
  )
