-- Walks over vectors with given supports, code by code, and tests of each vector.
use Rattle.std.proofs.Common.{ℕ, ◌≡◌, ◌<◌, ◌≤◌, ◌↔◌, ◌+◌, ◌-◌, ◌*◌, ◌/◌, ◌%◌, ◌^◌, zero, suc, Bool, true, false, IsTrue}
use Rattle.std.proofs.Common.{cond, eqb, leb, not, ◌&&◌, ◌||◌, List, [], ◌∷◌, ◌++◌, length, length-append, append-nil}
use Rattle.std.proofs.Common.{append_assoc, refl, sym, subst, ◌∙◌, ap, ap₂, arith, inl, inr}
use Rattle.std.specs.Prelude.{bit_or, bit_xor, min, nat_le, nat_lt}
use Rattle.std.specs.Bool.{Decides}
use Rattle.std.specs.List.{list_any, list_all}
use Rattle.std.proofs.Math.Nat.{pow-suc, one-le-pow}
use Rattle.std.proofs.lemmas.Bool.{cases_eq, eq-eqb, ne_eqb, eqb-true, both_ways, and_parts, and_from, or_left}
use Rattle.std.proofs.lemmas.Bool.{or_right, le-leb, leb-true, or_cases}
use Rattle.std.proofs.lemmas.Bool.Decides.{nat_tests}
use Rattle.std.proofs.lemmas.Grind.{common_steps}
use Rattle.std.proofs.lemmas.Nat.{or_lt, xor_lt}
use Rattle.std.proofs.lemmas.List.Sums.{sum_by-cons}
use Rattle.fx_base.proofs.Numbers.{eqb_comm}
use Rattle.fx_designs.specs.Galois.{IsField}
use Rattle.fx_designs.specs.Problems.{Dimensions, AtResolution, ForEffects}
use Rattle.fx_designs.specs.Vectors.{IsVector, weight, is_zero}
use Rattle.fx_designs.specs.Runs.{are_blocks_even}
use Rattle.fx_designs.specs.Demands.{effect_of, must_balance, is_estimated, do_runs_meet}
use Rattle.fx_laws.proofs.Tests.{points_decides, implies_decides, bool_same}
use Rattle.fx_vectors.specs.Shape.{dimensions_of}
use Rattle.fx_vectors.specs.Question.{CanBeAsked, requirement_of}
use Rattle.fx_vectors.specs.declared.question.Question.{Question}
use Rattle.fx_vectors.specs.Effects.{numbers_of}
use Rattle.fx_vectors.specs.declared.effect.Effect.{Effect}
use Rattle.fx_runs.specs.Runs.{RunsView}
use Rattle.fx_vectors.specs.Supports.{differs, differs_from_some, balances}
use Rattle.fx_runs.specs.declared.walk.Within.{Within}
use Rattle.fx_runs.specs.declared.walk.Within.TheVariants.{AllRuns, EachBlock}
use Rattle.fx_runs.specs.Supports.{bit_of, is_among, is_balanced_over, each_balanced, AreBalancedFrom}
use Rattle.fx_vectors.proofs.Supports.{bit-small, is_zero-effect}
use Rattle.fx_vectors.proofs.Differences.{or-bit, xor-bit, differs-cons}
use Rattle.fx_vectors.proofs.Balances.{balances-is}
use Rattle.fx_vectors.specs.declared.shape.TheConstants.{MOST_FACTORS}

-- supports of at most some factors
pub among-light : (n most : ℕ) (f : List ℕ) → length f ≤ n → is_among 0 (2 ^ n - 1) most f ≡ nat_le (weight f) most
among-light n most [] h = sym (le-leb 0 most (omega arith))
among-light zero most (c ∷ f) h = absurd (omega arith)
among-light (suc n) most (c ∷ f) h =
    let two = pow-suc 2 n in
    let one : 1 ≤ 2 ^ n = one-le-pow n 2 (omega arith) in
    let odd : (2 ^ suc n - 1) % 2 ≡ 1 = omega arith in
    let half : (2 ^ suc n - 1) / 2 ≡ 2 ^ n - 1 = omega arith in
    let rest = among-light n (most - bit_of c) f (omega arith) in
    let parts = sum_by-cons (λ x. cond (nat_lt 0 x) 1 0) c f in
    rw (odd, half, rest) (elim (cases_eq c 0) [
      | inl e ↦ grind (arith, nat_tests)
      | inr e ↦ grind (arith, nat_tests)
    ])

-- of single bits
xor-small : (b c y : ℕ) → b < 2 → c < 2 → y < 2 → (leb (bit_xor b c) y && leb y (bit_xor b c)) ≡ eqb y (bit_xor b c)
xor-small b c y hb hc hy = grind (arith, nat_tests)

bits-other : (b c y most : ℕ) → b < 2 → c < 2 → y < 2 → 1 ≤ most
    → (leb (bit_xor b c) y && leb y (min (bit_or b c) most))
    ≡ (eqb (bit_or y (bit_xor b c)) y && eqb (bit_or y (bit_or b c)) (bit_or b c))
bits-other zero zero zero most hb hc hy some = grind (arith, nat_tests)
bits-other zero zero (suc zero) most hb hc hy some = grind (arith, nat_tests)
bits-other zero (suc zero) zero most hb hc hy some = grind (arith, nat_tests)
bits-other zero (suc zero) (suc zero) most hb hc hy some = grind (arith, nat_tests)
bits-other (suc zero) zero zero most hb hc hy some = grind (arith, nat_tests)
bits-other (suc zero) zero (suc zero) most hb hc hy some = grind (arith, nat_tests)
bits-other (suc zero) (suc zero) zero most hb hc hy some = grind (arith, nat_tests)
bits-other (suc zero) (suc zero) (suc zero) most hb hc hy some = grind (arith, nat_tests)
bits-other (suc (suc b)) c y most hb hc hy some = absurd (omega arith)
bits-other zero (suc (suc c)) y most hb hc hy some = absurd (omega arith)
bits-other (suc zero) (suc (suc c)) y most hb hc hy some = absurd (omega arith)
bits-other zero zero (suc (suc y)) most hb hc hy some = absurd (omega arith)
bits-other zero (suc zero) (suc (suc y)) most hb hc hy some = absurd (omega arith)
bits-other (suc zero) zero (suc (suc y)) most hb hc hy some = absurd (omega arith)
bits-other (suc zero) (suc zero) (suc (suc y)) most hb hc hy some = absurd (omega arith)

-- the factors of either, as far as a difference can have them
abbrev pub outer_of : ℕ → ℕ → ℕ → ℕ
outer_of q u v = cond (eqb q 2) (bit_xor u v) (bit_or u v)

differs-bits : (q b c y most : ℕ) → b < 2 → c < 2 → y < 2 → 1 ≤ most
    → (leb (bit_xor b c) y && leb y (min (outer_of q b c) most)) ≡ differs q b c y
differs-bits q b c y most hb hc hy some =
    let small = xor_lt 1 b c hb hc in
    elim (cases_eq q 2) [
      | inl two ↦
          rw (eq-eqb q 2 two)
          (let m : min (bit_xor b c) most ≡ bit_xor b c = grind (arith, nat_tests) in rw m (xor-small b c y hb hc hy))
      | inr more ↦ rw (ne_eqb q 2 more) (bits-other b c y most hb hc hy some)
    ]

-- the parts of a number
xor-parts : (u v : ℕ) → bit_xor u v ≡ bit_xor (u % 2) (v % 2) + 2 * bit_xor (u / 2) (v / 2)
xor-parts u v =
    let u_is : u ≡ u % 2 + 2 * (u / 2) = omega arith in
    let v_is : v ≡ v % 2 + 2 * (v / 2) = omega arith in
    cc (u_is, v_is, xor-bit (u % 2) (v % 2) (u / 2) (v / 2) (omega arith) (omega arith))

or-parts : (u v : ℕ) → bit_or u v ≡ bit_or (u % 2) (v % 2) + 2 * bit_or (u / 2) (v / 2)
or-parts u v =
    let u_is : u ≡ u % 2 + 2 * (u / 2) = omega arith in
    let v_is : v ≡ v % 2 + 2 * (v / 2) = omega arith in
    cc (u_is, v_is, or-bit (u % 2) (v % 2) (u / 2) (v / 2) (omega arith) (omega arith))

outer-parts : (q u v : ℕ) → outer_of q u v ≡ outer_of q (u % 2) (v % 2) + 2 * outer_of q (u / 2) (v / 2)
outer-parts q u v = elim (cases_eq q 2) [
  | inl two ↦ rw (eq-eqb q 2 two) (xor-parts u v)
  | inr more ↦ rw (ne_eqb q 2 more) (or-parts u v)
]

outer-small : (q b c : ℕ) → b < 2 → c < 2 → outer_of q b c < 2
outer-small q b c hb hc = elim (cases_eq q 2) [
  | inl two ↦ rw (eq-eqb q 2 two) (xor_lt 1 b c hb hc)
  | inr more ↦ rw (ne_eqb q 2 more) (or_lt 1 b c hb hc)
]

or-zero : (x : ℕ) → bit_or 0 x ≡ x
or-zero x = grind (arith, common_steps)

-- supports of differences
pub among-differs : (q u v most : ℕ) (f : List ℕ) → length f ≤ most
    → is_among (bit_xor u v) (outer_of q u v) most f ≡ differs q u v (effect_of f)
among-differs q u v most [] h = elim (cases_eq q 2) [
  | inl two ↦ rw (eq-eqb q 2 two) (grind (arith, nat_tests))
  | inr more ↦
      rw (ne_eqb q 2 more, or-zero (bit_xor u v), or-zero (bit_or u v), eq-eqb (bit_or u v) (bit_or u v) refl)
      (grind (arith, nat_tests))
]
among-differs q u v most (c ∷ f) h =
    let xor = xor-parts u v in
    let outer = outer-parts q u v in
    let xor_low = xor_lt 1 (u % 2) (v % 2) (omega arith) (omega arith) in
    let outer_low = outer-small q (u % 2) (v % 2) (omega arith) (omega arith) in
    let inner_first : bit_xor u v % 2 ≡ bit_xor (u % 2) (v % 2) = omega arith in
    let inner_rest : bit_xor u v / 2 ≡ bit_xor (u / 2) (v / 2) = omega arith in
    let outer_first : outer_of q u v % 2 ≡ outer_of q (u % 2) (v % 2) = omega arith in
    let outer_rest : outer_of q u v / 2 ≡ outer_of q (u / 2) (v / 2) = omega arith in
    let room : length f ≤ most - bit_of c = let small = bit-small c in omega arith in
    let rest = among-differs q (u / 2) (v / 2) (most - bit_of c) f room in
    let first =
    differs-bits q (u % 2) (v % 2) (bit_of c) most (omega arith) (omega arith) (bit-small c) (omega arith) in
    let u_is : u % 2 + 2 * (u / 2) ≡ u = omega arith in
    let v_is : v % 2 + 2 * (v / 2) ≡ v = omega arith in
    let whole : differs q u v (effect_of (c ∷ f))
    ≡ (differs q (u % 2) (v % 2) (bit_of c) && differs q (u / 2) (v / 2) (effect_of f)) =
    cc (
      u_is,
      v_is,
      differs-cons q (u % 2) (v % 2) (bit_of c) (u / 2) (v / 2) (effect_of f) (omega arith) (omega arith)
          (bit-small c),
    ) in
    rw (inner_first, inner_rest, outer_first, outer_rest, rest, whole, sym first)
    (and-assoc (leb (bit_xor (u % 2) (v % 2)) (bit_of c)) (leb (bit_of c) (min (outer_of q (u % 2) (v % 2)) most))
    (differs q (u / 2) (v / 2) (effect_of f)))
  where
    and-assoc : (a b c : Bool) → (a && (b && c)) ≡ ((a && b) && c)
    and-assoc true b c = refl
    and-assoc false b c = refl

-- one effect alone
pub among-effect : (e most : ℕ) (f : List ℕ) → length f ≤ most → is_among e e most f ≡ eqb e (effect_of f)
among-effect e most f h =
    let same : bit_xor e 0 ≡ e = grind (arith, common_steps) in
    let found : is_among (bit_xor e 0) (bit_xor e 0) most f ≡ eqb (effect_of f) (bit_xor e 0) =
    among-differs 2 e 0 most f h in
    (rw same at found) ∙ eqb_comm (effect_of f) e

module _ (runs : RunsView) (within : Within) where
  abbrev q : ℕ
  q = runs.shape.q

  abbrev s : ℕ
  s = runs.shape.s

  code-of : (n : ℕ) (start : List ℕ) (c : ℕ) (rest : List ℕ) → IsVector q n (start ++ c ∷ rest) → c < q
  code-of n [] c rest h = h.codes.0
  code-of n (a ∷ start) c rest h =
      code-of (n - 1) start c rest (record { len = omega (arith, h.len); codes = h.codes.1 })

  -- all codes are chosen
  pub whole : (inner outer most : ℕ) (start : List ℕ) → length start ≡ s
      → (inner ≡ 0 → 0 < weight start → is_balanced_over runs within start ≡ true)
      → AreBalancedFrom runs within inner outer most start
  whole inner outer most start all balanced = record { each = each }
    where
      each : (rest : List ℕ) → IsVector q s (start ++ rest) → is_among inner outer most rest ≡ true
          → 0 < weight (start ++ rest) → is_balanced_over runs within (start ++ rest) ≡ true
      each [] h among heavy =
          let e : start ++ [] ≡ start = append-nil start in
          rw e (balanced (eqb-true inner 0 among) (subst (λ (f : List ℕ). 0 < weight f) e heavy))
      each (c ∷ rest) h among heavy = absurd (omega (arith, h.len, length-append start (c ∷ rest)))

  pub whole-tells : (inner outer most : ℕ) (start : List ℕ) → IsVector q s start
      → AreBalancedFrom runs within inner outer most start
      → inner ≡ 0 → 0 < weight start → is_balanced_over runs within start ≡ true
  whole-tells inner outer most start h all none heavy =
      let e : start ≡ start ++ [] = sym (append-nil start) in
      rw e (all.each [] (subst (IsVector q s) e h) (eq-eqb inner 0 none) (subst (λ (f : List ℕ). 0 < weight f) e heavy))

  -- the codes that may come next
  abbrev pub codes_of : ℕ → ℕ → ℕ
  codes_of outer most = cond (eqb (min (outer % 2) most) 0) 1 q

  pub each-code : (inner outer most : ℕ) (start : List ℕ) → length start < s
      → ((c : ℕ) → inner % 2 ≤ c → c < codes_of outer most
      → AreBalancedFrom runs within (inner / 2) (outer / 2) (most - bit_of c) (start ++ c ∷ []))
      → AreBalancedFrom runs within inner outer most start
  each-code inner outer most start more all = record { each = each }
    where
      each : (rest : List ℕ) → IsVector q s (start ++ rest) → is_among inner outer most rest ≡ true
          → 0 < weight (start ++ rest) → is_balanced_over runs within (start ++ rest) ≡ true
      each [] h among heavy = absurd (omega (arith, h.len, length-append start []))
      each (c ∷ rest) h among heavy =
          let parts =
          and_parts (nat_le (inner % 2) (bit_of c))
          (nat_le (bit_of c) (min (outer % 2) most) && is_among (inner / 2) (outer / 2) (most - bit_of c) rest)
          among in
          let parts' =
          and_parts (nat_le (bit_of c) (min (outer % 2) most))
          (is_among (inner / 2) (outer / 2) (most - bit_of c) rest) parts.1 in
          let low : inner % 2 ≤ bit_of c = leb-true _ _ parts.0 in
          let high : bit_of c ≤ min (outer % 2) most = leb-true _ _ parts'.0 in
          let code : c < q = code-of s start c rest h in
          let least : inner % 2 ≤ c = grind (arith, nat_tests) in
          let below : c < codes_of outer most = grind (arith, nat_tests) in
          let e : start ++ c ∷ rest ≡ (start ++ c ∷ []) ++ rest = sym (append_assoc start (c ∷ []) rest) in
          rw e ((all c least below).each rest (subst (IsVector q s) e h) parts'.1
          (subst (λ (f : List ℕ). 0 < weight f) e heavy))

  pub one-code : (inner outer most : ℕ) (start : List ℕ) (c : ℕ) → inner % 2 ≤ c → c < codes_of outer most
      → AreBalancedFrom runs within inner outer most start
      → AreBalancedFrom runs within (inner / 2) (outer / 2) (most - bit_of c) (start ++ c ∷ [])
  one-code inner outer most start c least below all = record {
    each = λ rest h among heavy.
        let e : (start ++ c ∷ []) ++ rest ≡ start ++ c ∷ rest = append_assoc start (c ∷ []) rest in
        let low : nat_le (inner % 2) (bit_of c) ≡ true = le-leb _ _ (grind (arith, nat_tests)) in
        let high : nat_le (bit_of c) (min (outer % 2) most) ≡ true = le-leb _ _ (grind (arith, nat_tests)) in
        rw e (all.each (c ∷ rest) (subst (IsVector q s) e h) (and_from _ _ low (and_from _ _ high among))
        (subst (λ (f : List ℕ). 0 < weight f) e heavy));
  }

  module _ (some : 0 < runs.shape.q) where
    pub each_decides : (test : List ℕ → Bool)
        → Decides (each_balanced runs within test)
        ((f : List ℕ) → IsVector q s f → test f ≡ true → is_balanced_over runs within f ≡ true)
    unfolding each_balanced
    each_decides test =
        let both = points_decides q s some (λ f. not (test f) || is_balanced_over runs within f) in (
          λ e f h. (implies_decides (test f) (is_balanced_over runs within f)).0 (both.0 e f h),
          λ all. both.1 (λ f h. (implies_decides (test f) (is_balanced_over runs within f)).1 (all f h)),
        )

    -- from no code on
    pub from_none : (b : Bool) (inner outer most : ℕ) → IsTrue b ↔ AreBalancedFrom runs within inner outer most []
        → b ≡ each_balanced runs within (λ f. not (is_zero f) && is_among inner outer most f)
    from_none b inner outer most told =
        let both = each_decides (λ f. not (is_zero f) && is_among inner outer most f) in
        bool_same b (each_balanced runs within (λ f. not (is_zero f) && is_among inner outer most f))
        (λ e. both.1 (λ f h among.
        let parts = and_parts (not (is_zero f)) (is_among inner outer most f) among in
        (told.0 e).each f h parts.1 (heavy f parts.0)))
        (λ e. told.1
        (record { each = λ f h among some_code. both.0 e f h (and_from _ _ (not-zero f some_code) among) }))
      where
        heavy : (f : List ℕ) → not (is_zero f) ≡ true → 0 < weight f
        heavy f e = grind (arith, nat_tests)

        not-zero : (f : List ℕ) → 0 < weight f → not (is_zero f) ≡ true
        not-zero f h = grind (arith, nat_tests)

    -- two tests that say the same of each vector
    pub each-same : (test other : List ℕ → Bool) → ((f : List ℕ) → IsVector q s f → test f ≡ other f)
        → each_balanced runs within test ≡ each_balanced runs within other
    each-same test other same =
        let one = each_decides test in
        let two = each_decides other in
        bool_same _ _ (λ e. two.1 (λ f h t. one.0 e f h (same f h ∙ t)))
        (λ e. one.1 (λ f h t. two.0 e f h (sym (same f h) ∙ t)))

    -- vectors that are not zero and pass one test or another
    pub each-either : (a b : List ℕ → Bool)
        → each_balanced runs within (λ f. not (is_zero f) && (a f || b f))
        ≡ (each_balanced runs within (λ f. not (is_zero f) && a f)
        && each_balanced runs within (λ f. not (is_zero f) && b f))
    each-either a b =
        let whole = each_decides (λ f. not (is_zero f) && (a f || b f)) in
        let one = each_decides (λ f. not (is_zero f) && a f) in
        let two = each_decides (λ f. not (is_zero f) && b f) in
        bool_same _ _
        (λ e. and_from _ _
        (one.1 (λ f h t. let p = and_parts (not (is_zero f)) (a f) t in
        whole.0 e f h (and_from _ _ p.0 (or_left (a f) (b f) p.1))))
        (two.1 (λ f h t. let p = and_parts (not (is_zero f)) (b f) t in
        whole.0 e f h (and_from _ _ p.0 (or_right (a f) (b f) p.1)))))
        (λ e.
        let both =
        and_parts (each_balanced runs within (λ f. not (is_zero f) && a f))
        (each_balanced runs within (λ f. not (is_zero f) && b f)) e in
        whole.1 (λ f h t.
        let p = and_parts (not (is_zero f)) (a f || b f) t in
        elim (or_cases (a f) (b f) p.1) [
          | inl x ↦ one.0 both.0 f h (and_from _ _ p.0 x)
          | inr y ↦ two.0 both.1 f h (and_from _ _ p.0 y)
        ]))

    -- vectors that are not zero and pass the test of one of some effects
    pub each-any : (test : ℕ → List ℕ → Bool) (effects : List Effect)
        → list_all (λ e. each_balanced runs within (λ f. not (is_zero f) && test e.0 f)) effects
        ≡ each_balanced runs within (λ f. not (is_zero f) && list_any (λ e. test e f) (numbers_of effects))
    each-any test [] =
        sym ((each_decides (λ f. not (is_zero f) && false)).1
        (λ f h t. absurd (both_ways false refl (and_parts (not (is_zero f)) false t).1)))
    each-any test (e ∷ effects) =
        cc (each-any test effects, each-either (test e.0) (λ f. list_any (λ e. test e f) (numbers_of effects)))

    -- the differences of vectors of one effect and of others or zero
    pub each-told : (estimate besides : List Effect) (u : ℕ)
        → (each_balanced runs within (λ f. not (is_zero f) && differs q u 0 (effect_of f))
        && (list_all (λ v. each_balanced runs within (λ f. not (is_zero f) && differs q u v.0 (effect_of f))) estimate
        && list_all (λ v. each_balanced runs within (λ f. not (is_zero f) && differs q u v.0 (effect_of f))) besides))
        ≡ each_balanced runs within
        (λ f. not (is_zero f) && differs_from_some q (numbers_of estimate) (numbers_of besides) (effect_of f) u)
    each-told estimate besides u =
        let one = λ (v : ℕ) (f : List ℕ). differs q u v (effect_of f) in
        let any = λ (effects : List Effect) (f : List ℕ). list_any (λ v. differs q u v (effect_of f))
        (numbers_of effects) in
        cc (
          each-any one estimate,
          each-any one besides,
          each-either (any estimate) (any besides),
          each-either (one 0) (λ f. any estimate f || any besides f),
        )

  module _ (f : IsField runs.shape.q) where
    some_code : 0 < runs.shape.q
    some_code = omega (arith, f.more_than_one)

    abbrev d : Dimensions
    d = dimensions_of runs.shape

    -- vectors that have to be balanced
    pub each-demanded : (estimate besides : List Effect)
        → CanBeAsked d (ForEffects (numbers_of estimate) (numbers_of besides))
        → list_all
        (λ u. each_balanced runs within
        (λ x. not (is_zero x) && differs_from_some q (numbers_of estimate) (numbers_of besides) (effect_of x) u.0))
        estimate
        ≡ each_balanced runs within (must_balance d (ForEffects (numbers_of estimate) (numbers_of besides)))
    unfolding balances
    each-demanded estimate besides asked =
        each-any some_code (λ u x. differs_from_some q (numbers_of estimate) (numbers_of besides) (effect_of x) u)
        estimate
        ∙ each-same some_code _ (must_balance d (ForEffects (numbers_of estimate) (numbers_of besides)))
        (λ x h. cc (
          is_zero-effect x,
          balances-is d f (ForEffects (numbers_of estimate) (numbers_of besides)) asked x h,
        ))

    pub each-light : (r : ℕ) (among : List ℕ → Bool) → s ≤ MOST_FACTORS
        → ((x : List ℕ) → length x ≤ MOST_FACTORS → among x ≡ nat_le (weight x) (r - 1)) → 3 ≤ r
        → each_balanced runs within (λ x. not (is_zero x) && among x)
        ≡ each_balanced runs within (must_balance d (AtResolution r))
    unfolding must_balance
    each-light r among few told more = each-same some_code _ (must_balance d (AtResolution r)) (λ x h.
        let is = told x (omega (arith, h.len)) in
        ap (λ (b : Bool). not (is_zero x) && b) is ∙ (grind (arith, nat_tests)))

    -- vectors of effects to be estimated
    pub each-estimated : (estimate besides : List Effect)
        → list_all (λ e. each_balanced runs within (λ x. not (is_zero x) && eqb e.0 (effect_of x))) estimate
        ≡ each_balanced runs within (is_estimated (ForEffects (numbers_of estimate) (numbers_of besides)))
    unfolding is_estimated
    each-estimated estimate besides = each-any some_code (λ e x. eqb e (effect_of x)) estimate

    pub each-few : (r : ℕ) (among : List ℕ → Bool) → s ≤ MOST_FACTORS
        → ((x : List ℕ) → length x ≤ MOST_FACTORS → among x ≡ nat_le (weight x) ((r - 1) / 2))
        → each_balanced runs within (λ x. not (is_zero x) && among x)
        ≡ each_balanced runs within (is_estimated (AtResolution r))
    unfolding is_estimated
    each-few r among few told = each-same some_code _ (is_estimated (AtResolution r)) (λ x h.
        let is = told x (omega (arith, h.len)) in
        ap (λ (b : Bool). not (is_zero x) && b) is ∙ (grind (arith, nat_tests)))

-- what it is that runs meet the demands
module _ (runs : RunsView) (question : Question) (same : runs.shape ≡ question.shape) where
  abbrev balanced : Bool
  balanced = each_balanced runs AllRuns (must_balance (dimensions_of runs.shape) (requirement_of question.demands))

  abbrev even : Bool
  even = are_blocks_even runs.shape.q runs.shape.s (runs.shape.q ^ runs.shape.t) runs.rows

  abbrev estimable : Bool
  estimable = each_balanced runs EachBlock (is_estimated (requirement_of question.demands))

  abbrev met : Bool
  met = do_runs_meet (dimensions_of question.shape) (requirement_of question.demands) runs.rows

  meets-by : met ≡ (balanced && (eqb question.shape.t 0 || (even && estimable)))
  unfolding each_balanced
  meets-by = rw same refl

  pub not-balanced : balanced ≡ false → met ≡ false
  not-balanced e = cc (meets-by, e)

  pub without-blocks : balanced ≡ true → question.shape.t ≡ 0 → met ≡ true
  without-blocks e none =
      meets-by ∙ ap₂ (λ (a b : Bool). a && (b || (even && estimable))) e (eq-eqb question.shape.t 0 none)

  pub with-blocks : (b : Bool) → balanced ≡ true → (question.shape.t ≡ 0 → ⊥) → even ≡ b → met ≡ (b && estimable)
  with-blocks b e some is =
      meets-by ∙ ap₂ (λ (x y : Bool). x && (y || (even && estimable))) e (ne_eqb question.shape.t 0 some) ∙ ap
      (λ (x : Bool). x && estimable) is
