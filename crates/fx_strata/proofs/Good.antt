-- What a good book shows: no design is better than what it claims.
use Rattle.std.proofs.Common.{ℕ, ◌≡◌, ◌<◌, ◌≤◌, ◌+◌, ◌*◌, ◌^◌, zero, suc, Bool, true, false, ◌||◌, eqb, List, []}
use Rattle.std.proofs.Common.{◌∷◌, ◌++◌, map, length, Option, Some, None, refl, sym, subst, ap₂, arith, inl}
use Rattle.std.proofs.Common.{inr, eqb-true, append_assoc, length-append}
use Rattle.std.specs.Prelude.{nat_lt}
use Rattle.std.specs.List.{AllByRecursion, filter}
use Rattle.std.proofs.Math.Nat.{mul-le-mul_right, mul-le-mul_left, pow-suc, pow-zero}
use Rattle.std.proofs.lemmas.Bool.{cases_Bool, cases_eq, cond-true, cond-false, and_parts, or_cases, or_left, or_right}
use Rattle.std.proofs.lemmas.Bool.{both_ways, false_from_ne_true, ltb-true}
use Rattle.std.proofs.lemmas.List.{length-map}
use Rattle.fx_base.proofs.Lists.{each-append_parts}
use Rattle.fx_designs.specs.Galois.{IsField}
use Rattle.fx_designs.specs.Vectors.{IsVector, vectors_of}
use Rattle.fx_designs.specs.Patterns.{is_less}
use Rattle.fx_designs.specs.Answers.{falling, before}
use Rattle.fx_designs.specs.Nodes.{last_row}
use Rattle.fx_reduction.proofs.PatternOrder.{less-either, less-trans}
use Rattle.fx_base.proofs.Numbers.{add_one-mul}
use Rattle.fx_strata.specs.Designs.{Strata, Part, Words, Unclear, Figures, Order, part_of, key_of, key_of_design}
use Rattle.fx_strata.specs.Designs.{base_of, figures_of}
use Rattle.fx_strata.specs.Canonical.{base, figures, IsDesign}
use Rattle.fx_strata.specs.Images.{has_earlier_image}
use Rattle.fx_strata.specs.Floors.{does_not_beat, cannot_beat}
use Rattle.fx_strata.specs.Books.{Claim, Entry, Branch, Worse, Image, NoRoom, Floor, is_right, children, turns_after}
use Rattle.fx_strata.specs.Books.{are_in_turn, is_good}
use Rattle.fx_strata.specs.Laws.{is_better, NoneBetter, HasFactors, LeastOfAll}
use Rattle.fx_strata.proofs.Reduced.{canonical_for_every}
use Rattle.fx_strata.proofs.Earlier.{earlier_for_each}
use Rattle.fx_strata.proofs.Least.{same, same-unclear, canonical_are_designs}
use Rattle.fx_strata.proofs.Follows.{follows, low, no_room}
use Rattle.fx_strata.proofs.Tested.{designs_are_tested}
use Rattle.fx_strata.proofs.Floored.{none_below, not_less}

-- figures that are the same have the same key
part-same : (part : Part) (u v : Figures) → ((b : Bool) (k : ℕ) → u.words b k ≡ v.words b k) → u.unclear ≡ v.unclear
    → part_of u part ≡ part_of v part
part-same (Words b k) u v same alike = same b k
part-same Unclear u v same alike = alike

pub key-same : (order : Order) (u v : Figures) → ((b : Bool) (k : ℕ) → u.words b k ≡ v.words b k)
    → u.unclear ≡ v.unclear
    → key_of order u ≡ key_of order v
key-same [] u v same alike = refl
key-same (part ∷ order) u v same alike =
    cc (part-same part u v same alike, key-same order u v same alike)

-- of fewer words the key is not greater
part-less : (u v : Figures) → ((b : Bool) (k : ℕ) → u.words b k ≤ v.words b k) → u.unclear ≤ v.unclear
    → (part : Part) → part_of u part ≤ part_of v part
part-less u v few clear (Words b k) = few b k
part-less u v few clear Unclear = clear

key-less : (order : Order) (u v : Figures) → ((b : Bool) (k : ℕ) → u.words b k ≤ v.words b k)
    → u.unclear ≤ v.unclear
    → is_less (key_of order v) (key_of order u) ≡ false
key-less order u v few clear = not_less _ _ order (part-less u v few clear)

-- what is not greater than a better key is better
still-better : (beat : Option (List ℕ)) (a b : List ℕ) → length a ≡ length b → is_less b a ≡ false
    → is_better beat b ≡ true → is_better beat a ≡ true
still-better None a b len few h = refl
still-better (Some key) a b len few h = elim (less-either b a (cc) few) [
  | inl same ↦ cc same
  | inr less ↦ less-trans a b key less h
]

-- the place of a list of numbers below b among those of its length
abbrev place : ℕ → List ℕ → ℕ
place b [] = 0
place b (r ∷ rows) = r * b ^ length rows + place b rows

place-below : (b n : ℕ) (v : List ℕ) → IsVector b n v → place b v < b ^ n
place-below b zero [] h = rw (pow-zero b) (omega arith)
place-below b (suc n) [] h = absurd (let e = h.len in omega arith)
place-below b zero (a ∷ v) h = absurd (let e = h.len in omega arith)
place-below b (suc n) (a ∷ v) h =
    let len : length v ≡ n = (let e = h.len in omega arith) in
    let rest = place-below b n v (record { len = len; codes = h.codes.1 }) in
    let wide = mul-le-mul_left {m = a + 1} {n = b} (b ^ n) (omega arith) in
    rw (len, pow-suc b n) (grind (arith, rest, wide))

-- what stands before is of greater place
before-place : (b : ℕ) (xs ys : List ℕ) → length xs ≡ length ys → AllByRecursion (λ r. r < b) xs
    → AllByRecursion (λ r. r < b) ys → before xs ys ≡ true → place b ys < place b xs
before-place b [] [] e hx hy h = cc h
before-place b [] (y ∷ ys) e hx hy h = absurd (omega arith)
before-place b (x ∷ xs) [] e hx hy h = absurd (omega arith)
before-place b (x ∷ xs) (y ∷ ys) e hx hy h =
    let same : length xs ≡ length ys = omega arith in
    elim (or_cases _ _ h) [
      | inl t ↦
          let less : y < x = ltb-true y x t in
          let under : place b ys < b ^ length ys =
          place-below b (length ys) ys (record { len = refl; codes = hy.1 }) in
          let wide : (y + 1) * b ^ length ys ≤ x * b ^ length ys = mul-le-mul_right (b ^ length ys) (omega arith) in
          let parts : (y + 1) * b ^ length ys ≡ y * b ^ length ys + b ^ length ys = add_one-mul y (b ^ length ys) in
          let is : x * b ^ length xs ≡ x * b ^ length ys = cc same in
          omega arith
      | inr t ↦
          let p = and_parts _ _ t in
          omega (arith, before-place b xs ys same hx.1 hy.1 p.1, ap₂ (λ (a n : ℕ). a * b ^ n) (eqb-true x y p.0) same)
    ]

module _ (x : Claim) (f : IsField x.strata.q) where
  abbrev st : Strata
  st = x.strata

  abbrev size : ℕ
  size = st.w + st.n

  abbrev better : List ℕ → Bool
  better rows = is_better x.beat (key_of x.order (figures st rows))

  -- a better design before which no other stands
  record IsFirst (rows : List ℕ) : Type 0 where
    design : IsDesign st rows
    is_better : better rows ≡ true
    none_before : (other : List ℕ) → IsDesign st other → better other ≡ true → before other rows ≡ true → ⊥

  -- the first better design is not below c
  abbrev IsClosed : List ℕ → Type 0
  IsClosed c = (s : List ℕ) → IsFirst (c ++ s) → ⊥

  each-at : (c : List ℕ) (p : ℕ → Bool) (n r : ℕ) → r < n → p r ≡ true
      → AllByRecursion IsClosed (map (λ r. c ++ r ∷ []) (filter p (falling n))) → IsClosed (c ++ r ∷ [])
  each-at c p zero r low h all = absurd (omega arith)
  each-at c p (suc n) r low h all =
      let rest = filter p (falling n) in
      elim (cases_Bool (p n)) [
        | inl t ↦
            let all' =
            rw (cond-true _ (n ∷ rest) rest t) at all in
            elim (cases_eq r n) [
              | inl e ↦ rw e all'.0
              | inr ne ↦ each-at c p n r (omega arith) h all'.1
            ]
        | inr o ↦
            elim (cases_eq r n) [
              | inl e ↦ absurd (both_ways _ o (rw e at h))
              | inr ne ↦ each-at c p n r (omega arith) h (rw (cond-false _ (n ∷ rest) rest o) at all)
            ]
      ]

  closed_by_children : (c : List ℕ) → length c < size → AllByRecursion IsClosed (children st c) → IsClosed c
  closed_by_children c part h [] first =
      absurd (let e = first.design.laid.len in omega (arith, length-append c []))
  closed_by_children c part h (r ∷ s) first =
      let lows = (each-append_parts _ c _ (low st f c _ first.design.laid)).1 in
      let k =
      each-at c _ _ r lows.0 (follows st f c s r first.design.laid) h in
      k s (subst IsFirst (sym (append_assoc c (r ∷ []) s)) first)

  -- no better design is below what an entry leaves out
  worse-closes : (c s : List ℕ)
      → (does_not_beat st x.order x.beat c || cannot_beat st x.order x.beat c) ≡ true → IsFirst (c ++ s) → ⊥
  worse-closes c s h first = by x.beat h first.is_better
    where
      by : (beat : Option (List ℕ)) → (does_not_beat st x.order beat c || cannot_beat st x.order beat c) ≡ true
          → is_better beat (key_of x.order (figures st (c ++ s))) ≡ true → ⊥
      by None h b = cc h
      by (Some key) h b = both_ways _
          (none_below st f x.order c s key h first.design) b

  image-closes : (c s change : List ℕ) → has_earlier_image st change c ≡ true → IsFirst (c ++ s) → ⊥
  image-closes c s change h first =
      let e = earlier_for_each st f c s change h first.design in
      first.none_before e.0 e.1.design
      (cc (key-same x.order (figures st e.0) (figures st (c ++ s)) e.1.words e.1.unclear, first.is_better))
      e.1.earlier

  turns_close : (todo : List (List ℕ)) (es : List Entry) → are_in_turn x todo es ≡ true → AllByRecursion IsClosed todo
  turns_close [] es h = tt
  turns_close (c ∷ cs) [] h = cc h
  turns_close (c ∷ cs) (e ∷ es) h =
      let p = and_parts (is_right x c e) (are_in_turn x (turns_after x c e cs) es) h in
      entry e p.0 (turns_close (turns_after x c e cs) es p.1)
    where
      entry : (e : Entry) → is_right x c e ≡ true → AllByRecursion IsClosed (turns_after x c e cs)
          → AllByRecursion IsClosed (c ∷ cs)
      entry (Branch r) right k =
          let part = ltb-true _ _ (and_parts (eqb r (last_row c)) (nat_lt (length c) size) right).1 in
          let parts = each-append_parts IsClosed (children st c) cs k in
          (closed_by_children c part parts.0, parts.1)
      entry (Worse r) right k = (
        λ s. worse-closes c s (or_left (does_not_beat st x.order x.beat c) (cannot_beat st x.order x.beat c)
            (and_parts _ _ right).1),
        k,
      )
      entry (Image r change) right k = (
        λ s. image-closes c s change (and_parts _ _ right).1,
        k,
      )
      entry (NoRoom r) right k = (
        λ s first. no_room st f c s first.design.laid (and_parts _ _ right).1,
        k,
      )
      entry (Floor r) right k = (
        λ s. worse-closes c s (or_right (does_not_beat st x.order x.beat c) (cannot_beat st x.order x.beat c)
            (and_parts _ _ right).1),
        k,
      )

  module _ (some : 0 < size) (es : List Entry) (good : is_good x es ≡ true) where
    none_first : (rows : List ℕ) → IsFirst rows → ⊥
    none_first rows first = closed_by_children [] some (turns_close _ es good) rows first

    -- so there is none at all: of finitely many some would be the first
    none_from : (left : ℕ) (rows : List ℕ) → IsDesign st rows → better rows ≡ true
        → (st.q ^ st.m) ^ size < place (st.q ^ st.m) rows + left → ⊥
    none_from zero rows design b h =
        omega (
          arith,
          place-below (st.q ^ st.m) size rows
              (record { len = design.laid.len; codes = low st f [] rows design.laid }),
        )
    none_from (suc left) rows design b h = none_first rows (record {
      design = design;
      is_better = b;
      none_before = λ other D b' before.
          none_from left other D b' (omega (
            arith,
            before-place _ other rows (cc) (low st f [] other D.laid)
                (low st f [] rows design.laid) before,
          ));
    })

    pub none_better : HasFactors st → NoneBetter x
    none_better many blocks factors stratified = false_from_ne_true _ (λ b.
        let r = canonical_for_every st f blocks factors many stratified in
        none_from (suc ((st.q ^ st.m) ^ size)) r.0 r.1.design
        (still-better x.beat (key_of x.order (figures st r.0)) (key_of_design st x.order blocks factors)
        (cc (
          length-map x.order (part_of (figures st r.0)),
          length-map x.order (part_of (figures_of st (base_of st blocks factors) factors)),
        ))
        (key-less x.order _ _ r.1.words r.1.unclear) b)
        (omega arith))

    pub least_of_all : HasFactors st → LeastOfAll x
    least_of_all many rows tested is =
        let D = designs_are_tested st rows tested in
        record {
          design = canonical_are_designs st f rows D;
          least = λ blocks factors stratified.
              cc (
                (key-same x.order
                    (figures_of st (base_of st (base st) (vectors_of st.q st.m rows)) (vectors_of st.q st.m rows))
                    (figures st rows) (same st f rows D) (same-unclear st f rows D)),
                none_better many blocks factors stratified,
              );
        }
