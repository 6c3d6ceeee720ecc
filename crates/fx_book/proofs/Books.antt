-- A book that was written is read.
use Rattle.std.proofs.Common.{◌≡◌, ℕ, ◌^◌, ◌<◌, ◌≤◌, inl, inr, true, false, ◌||◌, eqb, leb, List, [], ◌∷◌}
use Rattle.std.proofs.Common.{◌++◌, map, length, Some, refl, ap, ◌∙◌, arith, append_assoc}
use Rattle.std.proofs.Common.{append-nil, eq-eqb, ne_eqb, lt-ltb, le-leb}
use Rattle.std.specs.Prelude.{codes, decimal}
use Rattle.std.specs.List.{AllByRecursion}
use Rattle.std.specs.Str.{bytes_eq}
use Rattle.std.specs.Str.Parse.{AllDigits}
use Rattle.std.proofs.lemmas.Bool.{cond-true, cond-false, cases_eq, and_from, and_left, or_left, or_right}
use Rattle.std.proofs.lemmas.Fmt.{decimal_is_IsNumeral_wide}
use Rattle.std.proofs.lemmas.Str.Parse.{digit_from_value}
use Rattle.std.proofs.lemmas.List.Elements.{recursion_from_All}
use Rattle.fx_vectors.specs.Shape.{IsShape}
use Rattle.fx_vectors.specs.declared.shape.Shape.{Shape}
use Rattle.fx_vectors.proofs.Limits.{order-bounds, indexes_fit}
use Rattle.fx_vectors.specs.declared.question.Demands.TheVariants.{Resolution, Effects}
use Rattle.fx_book.specs.declared.version.Version.{Version}
use Rattle.fx_book.specs.Versions.{most_factors_in}
use Rattle.fx_book.specs.Parts.{split, numbers_of_parts}
use Rattle.std.proofs.Math.Nat.{pow-le-pow_right}
use Rattle.std.proofs.lemmas.List.{length-map}
use Rattle.fx_vectors.specs.declared.effect.Effect.{Effect}
use Rattle.fx_vectors.specs.Effects.{numbers_of, AreEffects}
use Rattle.fx_vectors.specs.Question.{CanBeTold}
use Rattle.fx_vectors.specs.declared.shape.TheConstants.{MOST_FACTORS, MOST_FACTORS_IN_BLOCKS}
use Rattle.fx_book.specs.Demands.{demands_of, lists_of, numbered_effects, asked_for}
use Rattle.fx_book.specs.Demands.{may_be_asked}
use Rattle.fx_book.proofs.Listed.{effects-numbers}
use Rattle.fx_book.specs.Heads.{is_shape, shape_of, whole_pattern, beat_of, beat_from}
use Rattle.fx_book.specs.Writing.{spaced}
use Rattle.fx_book.proofs.Back.{Without, split_line, split_last, without-append, digits_without, number_back, plain}

without_number : (stop n : ℕ) → stop < 48 → n < 2 ^ 128 → Without stop (decimal n)
without_number stop n s low = digits_without stop s _ (plain n low)

-- the parts of spaced numbers
pub spaced_parts : (n : ℕ) (ns : List ℕ) → AllByRecursion (λ a. a < 2 ^ 128) (n ∷ ns)
    → split 32 (decimal n ++ spaced ns) ≡ map decimal (n ∷ ns)
spaced_parts n [] h =
    cc (append-nil (decimal n), split_last 32 _ (without_number 32 n (omega arith) h.0))
spaced_parts n (m ∷ ns) h =
    cc (split_line 32 _ (decimal m ++ spaced ns) (without_number 32 n (omega arith) h.0), spaced_parts m ns h.1)

pub one_line : (ns : List ℕ) → AllByRecursion (λ a. a < 2 ^ 128) ns → Without 10 (spaced ns)
one_line [] h = tt
one_line (n ∷ ns) h =
    (refl, without-append 10 _ _ (without_number 10 n (omega arith) h.0) (one_line ns h.1))

module _ (version : Version) (shape : Shape) (h : IsShape shape) (may : shape.s ≤ most_factors_in version shape.q) where
  limits : is_shape version shape.q shape.m shape.s shape.t ≡ true
  limits =
      let blocks : (eqb shape.t 0 || leb shape.s MOST_FACTORS_IN_BLOCKS) ≡ true =
      elim (cases_eq shape.t 0) [
        | inl z ↦ or_left _ _ (eq-eqb _ _ z)
        | inr some ↦ or_right _ _ (le-leb _ _ (h.factors_in_blocks (omega arith)))
      ] in
      and_from _ _ h.order
      (and_from _ _ (le-leb 1 shape.m h.some_indexes)
      (and_from _ _ (le-leb shape.m 10 (indexes_fit shape h)) (and_from _ _ (le-leb _ _ h.runs)
      (and_from _ _ (le-leb 1 shape.s h.some_factors)
      (and_from _ _ (le-leb _ _ may) (and_from _ _ (le-leb _ _ h.block_factors) blocks))))))

  pub wide_shape : AllByRecursion (λ a. a < 2 ^ 128) (shape.q ∷ shape.m ∷ shape.s ∷ shape.t ∷ [])
  wide_shape =
      let q = (order-bounds shape.q h.order).1 in
      let m = indexes_fit shape h in
      (omega arith, (omega arith, (omega arith, (omega arith, tt))))

  pub shape_back : shape_of version (split 32 (codes "size" ++ spaced (shape.q ∷ shape.m ∷ shape.s ∷ shape.t ∷ [])))
      ≡ Some shape
  shape_back =
      let parts : split 32 (codes "size" ++ spaced (shape.q ∷ shape.m ∷ shape.s ∷ shape.t ∷ []))
      ≡ codes "size" ∷ map decimal (shape.q ∷ shape.m ∷ shape.s ∷ shape.t ∷ []) =
      cc (spaced_parts shape.q _ wide_shape) in
      ap (shape_of version) parts
      ∙ (rw (
        number_back shape.q wide_shape.0,
        number_back shape.m wide_shape.1.0,
        number_back shape.s wide_shape.1.1.0,
        number_back shape.t wide_shape.1.1.1.0,
      )
      (cond-true _ _ _ limits))

pub resolution_back : (shape : Shape) (r : ℕ) → 3 ≤ r → r ≤ 99
    → demands_of shape (split 32 (codes "resolution" ++ spaced (r ∷ []))) ≡ Some (Resolution r)
resolution_back shape r low high =
    let small : r < 2 ^ 128 = omega arith in
    let parts : split 32 (codes "resolution" ++ spaced (r ∷ [])) ≡ codes "resolution" ∷ decimal r ∷ [] =
    cc (spaced_parts r [] (small, tt)) in
    ap (demands_of shape) parts ∙
    (rw (number_back r small)
    (cond-true _ _ _ (and_from _ _ (le-leb 3 r low) (le-leb r 99 high))))

-- numbers within bounds that were written are read
pub numbers_back : (least limit : ℕ) (numbers : List ℕ) → limit ≤ 2 ^ 128
    → AllByRecursion (λ n. (least ≤ n) × (n < limit)) numbers
    → numbers_of_parts least limit (map decimal numbers) ≡ Some numbers
numbers_back least limit [] top h = refl
numbers_back least limit (n ∷ numbers) top h =
    rw (number_back n (omega arith), numbers_back least limit numbers top h.1)
    (cond-true _ _ _ (and_from _ _ (le-leb _ _ h.0.0) (lt-ltb _ _ h.0.1)))

-- no number begins like `none`
no_none : (ds rest : List ℕ) → 0 < length ds → AllDigits 10 ds
    → bytes_eq (codes "pattern " ++ (ds ++ rest)) (codes "pattern none") ≡ false
no_none [] rest some h = absurd (omega arith)
no_none (c ∷ cs) rest some h = let e = digit_from_value c h.0 in
    and_left _ _ (ne_eqb c 110 (λ z. omega arith))

pub wider : (pattern : List ℕ) → AllByRecursion (λ a. a < 2 ^ 127) pattern → AllByRecursion (λ a. a < 2 ^ 128) pattern
wider [] h = tt
wider (a ∷ pattern) h = (omega arith, wider pattern h.1)

from_zero : (pattern : List ℕ) → AllByRecursion (λ a. a < 2 ^ 127) pattern
    → AllByRecursion (λ a. (0 ≤ a) × (a < 2 ^ 127)) pattern
from_zero [] h = tt
from_zero (a ∷ pattern) h = ((omega arith, h.0), from_zero pattern h.1)

pub pattern_back : (s : ℕ) (pattern : List ℕ) → 1 ≤ s → length pattern ≡ s → AllByRecursion (λ a. a < 2 ^ 127) pattern
    → beat_of s true (codes "pattern" ++ spaced pattern) ≡ Some (Some pattern)
pattern_back s [] some long h = absurd (omega arith)
pattern_back s (a ∷ pattern) some long h =
    let w = wider (a ∷ pattern) h in
    let numeral = (decimal_is_IsNumeral_wide a (omega arith)).0 in
    let parts : split 32 (codes "pattern" ++ spaced (a ∷ pattern)) ≡ codes "pattern" ∷ map decimal (a ∷ pattern) =
    ap (λ l. codes "pattern" ∷ l) (spaced_parts a pattern w) in
    cond-false _ _ _
    (no_none _ (spaced pattern) numeral.0 numeral.1)
    ∙ ap (beat_from s true) parts
    ∙ ap (whole_pattern s) (numbers_back 0 (2 ^ 127) (a ∷ pattern) (omega arith) (from_zero (a ∷ pattern) h))
    ∙ cond-true (eqb (length (a ∷ pattern)) s) _ _ (eq-eqb _ _ long)

-- what the effects of a line are, by the parts that it was written from
stroke_parts : (n : ℕ) (ns ms : List ℕ) → AllByRecursion (λ a. a < 2 ^ 128) (n ∷ ns)
    → AllByRecursion (λ a. a < 2 ^ 128) ms
    → split 32 (decimal n ++ (spaced ns ++ (codes " /" ++ spaced ms)))
    ≡ map decimal (n ∷ ns) ++ codes "/" ∷ map decimal ms
stroke_parts n [] [] h k = split_line 32 _ _ (without_number 32 n (omega arith) h.0)
stroke_parts n [] (m ∷ ms) h k =
    cc (
      split_line 32 _ (codes "/" ++ spaced (m ∷ ms)) (without_number 32 n (omega arith) h.0),
      split_line 32
          (codes "/") (decimal m ++ spaced ms) (refl, tt),
      spaced_parts m ms k,
    )
stroke_parts n (m ∷ ns) ms h k =
    cc (
      append_assoc (decimal m) (spaced ns) (codes " /" ++ spaced ms),
      split_line 32 _
          (decimal m ++ (spaced ns ++ (codes " /" ++ spaced ms)))
          (without_number 32 n (omega arith) h.0),
      stroke_parts m ns ms h.1 k,
    )

-- no number is a stroke
no_stroke : (ds : List ℕ) → 0 < length ds → AllDigits 10 ds → bytes_eq ds (codes "/") ≡ false
no_stroke [] some h = absurd (omega arith)
no_stroke (c ∷ cs) some h = let e = digit_from_value c h.0 in and_left _ _ (ne_eqb c 47 (λ z. omega arith))

-- lists of effects that were written are read
lists_back : (limit : ℕ) (ns ms : List ℕ) → limit ≤ 2 ^ 64 → AllByRecursion (λ n. (1 ≤ n) × (n < limit)) ns
    → AllByRecursion (λ n. (1 ≤ n) × (n < limit)) ms
    → lists_of limit (map decimal ns ++ codes "/" ∷ map decimal ms)
    ≡ Some (record { estimate = numbered_effects ns; nonnegligible = numbered_effects ms })
lists_back limit [] ms top h k =
    cc (numbers_back 1 limit ms (omega arith) k)
lists_back limit (n ∷ ns) ms top h k =
    let numeral = (decimal_is_IsNumeral_wide n (omega arith)).0 in
    cond-false _ _ _ (no_stroke _ numeral.0 numeral.1)
    ∙ (rw (number_back n (omega arith), lists_back limit ns ms top h.1 k)
    (cond-true _ _ _ (and_from _ _ (le-leb _ _ h.0.0) (lt-ltb _ _ h.0.1))))

narrow : (s : ℕ) (ns : List ℕ) → s ≤ MOST_FACTORS → AllByRecursion (λ n. (0 < n) × (n < 2 ^ s)) ns
    → AllByRecursion (λ n. (1 ≤ n) × (n < 2 ^ s)) ns
narrow s [] few h = tt
narrow s (n ∷ ns) few h = ((omega arith, h.0.1), narrow s ns few h.1)

pub small : (s : ℕ) (ns : List ℕ) → s ≤ MOST_FACTORS → AllByRecursion (λ n. (0 < n) × (n < 2 ^ s)) ns
    → AllByRecursion (λ n. n < 2 ^ 128) ns
small s [] few h = tt
small s (n ∷ ns) few h = let top : 2 ^ s ≤ 2 ^ 63 = pow-le-pow_right (omega arith) few in
    (omega (arith, h.0.1, top), small s ns few h.1)

pub each_number : (s : ℕ) (ns : List ℕ) → AreEffects s ns → AllByRecursion (λ n. (0 < n) × (n < 2 ^ s)) ns
each_number s ns h = recursion_from_All _ ns h.each

may : (q s : ℕ) (ns ms : List ℕ) → CanBeTold q s ns ms → length ns ≤ 100000 → length ms ≤ 100000
    → may_be_asked q ns ms ≡ true
may q s ns ms h few others =
    and_from _ _ (lt-ltb _ _ h.some) (and_from _ _ (le-leb _ _ few) (and_from _ _ (le-leb _ _ others)
    (and_from _ _ h.estimated.in_order (and_from _ _ h.others.in_order (and_from _ _ (le-leb _ _ h.pairs) h.apart)))))

pub effects_back : (shape : Shape) (estimate others : List Effect) → shape.s ≤ MOST_FACTORS
    → CanBeTold shape.q shape.s (numbers_of estimate) (numbers_of others)
    → length estimate ≤ 100000 → length others ≤ 100000
    → demands_of shape
    (split 32 (codes "effects" ++ (spaced (numbers_of estimate) ++ (codes " /" ++ spaced (numbers_of others)))))
    ≡ Some (Effects estimate others)
effects_back shape [] others short h few besides = absurd (omega arith)
effects_back shape (e ∷ estimate) others short h few besides =
    let ns : List ℕ = numbers_of estimate in
    let ms : List ℕ = numbers_of others in
    let mine = each_number shape.s (e.0 ∷ ns) h.estimated in
    let theirs = each_number shape.s ms h.others in
    let top : 2 ^ shape.s ≤ 2 ^ 63 = pow-le-pow_right (omega arith) short in
    let parts : split 32 (codes "effects" ++ (spaced (e.0 ∷ ns) ++ (codes " /" ++ spaced ms)))
    ≡ codes "effects" ∷ (map decimal (e.0 ∷ ns) ++ codes "/" ∷ map decimal ms) =
    ap (λ l. split 32 (codes "effects " ++ l)) (append_assoc (decimal e.0) (spaced ns) (codes " /" ++ spaced ms))
    ∙ ap (λ l. codes "effects" ∷ l)
    (stroke_parts e.0 ns ms (small shape.s (e.0 ∷ ns) short mine) (small shape.s ms short theirs)) in
    let read =
    lists_back (2 ^ shape.s) (e.0 ∷ ns) ms (omega arith) (narrow shape.s (e.0 ∷ ns) short mine)
    (narrow shape.s ms short theirs)
    ∙ ap (λ l. Some (record { estimate = l; nonnegligible = numbered_effects ms }))
    (effects-numbers (e ∷ estimate))
    ∙ ap (λ l. Some (record { estimate = e ∷ estimate; nonnegligible = l })) (effects-numbers others) in
    ap (demands_of shape) parts ∙ ap (asked_for shape.q) read
    ∙ cond-true (may_be_asked shape.q (e.0 ∷ ns) ms) _ _
    (may shape.q shape.s (e.0 ∷ ns) ms h
    (rw (← (length-map (e ∷ estimate) (λ x. x.0))) at few)
    (rw (length-map others (λ x. x.0)) besides))
