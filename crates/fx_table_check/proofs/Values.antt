-- What the entries of an order count, and how keys are compared.
use Rattle.std.proofs.Common.{ℕ, ◌≡◌, ◌<◌, ◌≤◌, ◌+◌, ◌-◌, ◌*◌, ◌^◌, zero, suc, Bool, true, false, not, eqb, ◌&&◌, ◌||◌}
use Rattle.std.proofs.Common.{List, [], ◌∷◌, ◌++◌, map, length, drop, get_or, slice_index_or, sym, ◌∙◌, ap}
use Rattle.std.proofs.Common.{arith, inl, inr}
use Rattle.std.proofs.Common.{add-one, drop-cons, eq-eqb}
use Rattle.std.specs.Prelude.{nat_lt}
use Rattle.std.specs.List.{AllByRecursion}
use Rattle.std.proofs.lemmas.Bool.{cases_Bool, cases_lt, cond-false}
use Rattle.std.proofs.lemmas.Bool.Decides.{nat_tests}
use Rattle.std.proofs.lemmas.List.{get_or-map, length-map, length_push}
use Rattle.std.proofs.Math.Nat.{pow-le-pow_right}
use Rattle.fx_designs.specs.Galois.{IsField}
use Rattle.fx_designs.specs.Patterns.{is_less}
use Rattle.fx_strata.specs.Floors.{least_sum}
use Rattle.fx_strata.proofs.Floored.{least-with}
use Rattle.fx_words.proofs.Entries.{less-here}
use Rattle.fx_strata.specs.Designs as designs
use Rattle.fx_strata.specs.Designs.{Strata}
use Rattle.fx_strata.specs.Canonical.{words}
use Rattle.fx_strata.specs.Floors.{new_words}
use Rattle.fx_strata.specs.Stages.{Stage, missing}
use Rattle.fx_strata.proofs.Floored.{words-more}
use Rattle.fx_table_book.specs.declared.order.Part.{Part}
use Rattle.fx_table_book.specs.declared.base.Base.{Base}
use Rattle.fx_table_book.specs.Tables.{strata_of, IsBase, part_of, parts_of}
use Rattle.fx_table_book.proofs.Bases.{field, some-levels}
use Rattle.fx_table_check.proofs.Counts.{words-most}

-- of two numbers that differ one is the less
other_way : (x y : ℕ) → (x ≡ y → ⊥) → nat_lt y x ≡ not (nat_lt x y)
other_way x y ne = elim (cases_Bool (nat_lt x y)) [
  | inl t ↦
      let low : x < y = grind (arith, nat_tests, t) in
      let o : nat_lt y x ≡ false = grind (arith, nat_tests) in cc
  | inr o ↦
      let low : y ≤ x = grind (arith, nat_tests, o) in
      let less : y < x = omega arith in
      let t : nat_lt y x ≡ true = grind (arith, nat_tests) in cc
]

same_head : (x y : ℕ) (rest : Bool) → x ≡ y → (nat_lt x y || (eqb x y && rest)) ≡ rest
same_head x y rest e =
    let not_less : nat_lt x y ≡ false = grind (arith, nat_tests) in
    cc (eq-eqb x y e)

module _ (a b : List ℕ) (i v : ℕ) (ha : i < length a) (hb : i < length b) (is : v ≡ get_or a i 0)
    (so : is_less (drop i a) (drop i b) ≡ is_less a b) where
  -- the first entries that differ decide
  pub decided : (v ≡ get_or b i 0 → ⊥) → nat_lt (get_or b i 0) v ≡ not (is_less a b)
  decided ne =
      let other : (get_or a i 0 ≡ get_or b i 0 → ⊥) = λ e. ne (is ∙ e) in
      cc (other_way _ _ other, less-here a b i ha hb other)

  pub undecided : v ≡ get_or b i 0 → is_less (drop (i + 1) a) (drop (i + 1) b) ≡ is_less a b
  undecided e =
      let here : is_less (drop i a) (drop i b)
      ≡ (nat_lt (get_or a i 0) (get_or b i 0)
      || (eqb (get_or a i 0) (get_or b i 0) && is_less (drop (i + 1) a) (drop (i + 1) b))) =
      rw (add-one i, drop-cons a i 0 ha, drop-cons b i 0 hb) in
      cc (same_head _ _ (is_less (drop (i + 1) a) (drop (i + 1) b)) (sym is ∙ e))

-- the entry of a key
pub key-at : (parts : List Part) (f : designs.Part → ℕ) (i : ℕ) (part : Part) → i < length parts
    → f (part_of (slice_index_or parts i part)) ≡ get_or (map f (parts_of parts)) i 0
key-at parts f i part low =
    cc (
      get_or-map part_of parts i part (part_of part) low,
      get_or-map f (parts_of parts) i (part_of part) 0
          (omega (arith, length-map parts part_of)),
    )

-- a key has an entry for each one of the order
pub key-long : (parts : List Part) (f : designs.Part → ℕ) (i : ℕ) → i < length parts
    → i < length (map f (parts_of parts))
key-long parts f i low = omega (arith, length-map (parts_of parts) f, length-map parts part_of)

-- the sum of the least of few small numbers
pub least-most : (k b : ℕ) (xs : List ℕ) → AllByRecursion (λ x. x ≤ b) xs → least_sum k xs ≤ k * b
least-most zero b xs h = omega arith
least-most (suc k) b [] h = omega arith
least-most (suc k) b (x ∷ xs) h =
    let with = least-with k x xs in
    let rest = least-most k b xs h.1 in
    let parts : suc k * b ≡ k * b + b = grind arith in
    omega arith

pub each-mapped : (P : ℕ → Type 0) (f : ℕ → ℕ) → ((r : ℕ) → P (f r)) → (xs : List ℕ) → AllByRecursion P (map f xs)
each-mapped P f h [] = tt
each-mapped P f h (x ∷ xs) = (h x, each-mapped P f h xs)

-- the words with one row more are those without it and the new ones
pub words-new : (x : Strata) (f : IsField x.q) (rows : List ℕ) (r : ℕ) (b : Bool) (k : ℕ)
    → words x (rows ++ r ∷ []) b k ≡ words x rows b k + new_words x rows r b k
words-new x f rows r b k =
    (omega (arith, words-more x f b k rows (r ∷ [])))

-- the least new words fit
pub least-fits : (base : Base) → IsBase base → (rows : List ℕ) → length rows < base.w + base.n → (b : Bool) (i k : ℕ)
    (later : List ℕ) → k ≤ 63
    → least_sum k (map (λ r. new_words (strata_of base) rows r b i) later) ≤ 2 ^ 126
least-fits base h rows room b i k later low =
    let x : Strata = strata_of base in
    let each : (r : ℕ) → new_words x rows r b i ≤ 2 ^ 120 =
    λ r. let most = words-most x (field base h) h.inside (rows ++ r ∷ []) b i in
    let more : base.q ^ length (rows ++ r ∷ []) ≤ base.q ^ (base.w + base.n) =
    pow-le-pow_right (some-levels base h) (omega (arith, length_push rows r, room)) in
    omega (arith, most, more, h.few_words) in
    omega (
      arith,
      least-most k (2 ^ 120) (map (λ r. new_words x rows r b i) later)
          (each-mapped (λ a. a ≤ 2 ^ 120) (λ r. new_words x rows r b i) each later),
    )

-- a row is missing only where there is room for it
pub missing-room : (x : Strata) (rows : List ℕ) → (missing x rows ≡ 0 → ⊥) → length rows < x.w + x.n
missing-room x rows some = elim (cases_Bool (nat_lt (length rows) x.w)) [
  | inl t ↦ grind (arith, nat_tests, t)
  | inr o ↦
      elim (cases_lt (length rows) (x.w + x.n)) [
        | inl l ↦ l
        | inr g ↦ absurd (some ((ap (λ (s : Stage). s.end - length rows)
            (cond-false _ (record { first_unit = 0; units = x.h; begin = 0; end = x.w })
            (record { first_unit = x.h; units = x.m - x.h; begin = x.w; end = x.w + x.n }) o)) ∙ omega arith))
      ]
]
