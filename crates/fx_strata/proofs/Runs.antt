-- The words of a design over its runs are those that its sums give.
use Rattle.std.proofs.Common.{ℕ, ◌≡◌, ◌<◌, ◌≤◌, ◌+◌, ◌-◌, ◌^◌, zero, suc, Bool, true, false, not, cond, eqb, ◌&&◌, List}
use Rattle.std.proofs.Common.{[], ◌∷◌, ◌++◌, length, take, drop, refl, sym, subst, ◌∙◌, ap, ap₂, arith, inl, inr}
use Rattle.std.proofs.Common.{eqb-true, eq-eqb, take-append-drop}
use Rattle.std.specs.Prelude.{nat_lt}
use Rattle.std.specs.List.{sum_by, range_with_len}
use Rattle.std.proofs.Math.Seq.{take-append_seam, drop-append_seam}
use Rattle.std.proofs.lemmas.Bool.{cases_lt, ne_eqb, lt-ltb}
use Rattle.std.proofs.lemmas.List.{drop-map, length-take}
use Rattle.std.proofs.lemmas.List.Sums.{sum_by-cons}
use Rattle.std.proofs.lemmas.List.Elements.{recursion_from_All, All-from_recursion}
use Rattle.fx_base.proofs.Lists.{each-map, each-drop}
use Rattle.fx_designs.specs.Galois.{IsField, number, codes_of}
use Rattle.fx_designs.specs.Vectors.{IsVector, dot, plus, scale, zeros, weight, is_zero, combination}
use Rattle.fx_designs.specs.Runs.{points, levels_at, runs_of, block, is_constant, is_constant_in_blocks}
use Rattle.fx_designs.specs.Spans.{in_span}
use Rattle.fx_designs.specs.Patterns.{constant_words}
use Rattle.fx_laws.specs.Facts.{IsConstant, IsConstantInBlocks}
use Rattle.fx_laws.proofs.Codes.{number-below}
use Rattle.fx_laws.proofs.Space.{AreVectors, combination-vector}
use Rattle.fx_laws.proofs.Shift.{all-points, points-sum}
use Rattle.fx_laws.proofs.Sums.{sum_by-ext, sum_by-plus, sum_by-zero, sum_by-same}
use Rattle.fx_laws.proofs.Tests.{bool_same, range_decides}
use Rattle.fx_laws.proofs.Constant.{constant_decides, zero_sum_decides}
use Rattle.fx_laws.proofs.Blocks.{held, levels-vector, constant_or_balanced}
use Rattle.fx_laws.proofs.Ranks.{in_span-true, in_span-holds}
use Rattle.fx_laws.proofs.Raises.{sum_by-each, none-combination}
use Rattle.fx_laws.proofs.Weights.{zeros_from_weight, weight-zeros}
use Rattle.fx_strata.specs.Designs.{Strata, is_confounded, words_of}
use Rattle.fx_strata.specs.Words.{words_in}
use Rattle.fx_strata.specs.Sums.{is_in_base, sums_of}
use Rattle.fx_strata.proofs.Totals.{total, total-cons, counted}

-- over rows with base rows behind them
module _ (q m : ℕ) (f : IsField q) (factors base : List (List ℕ)) (hf : AreVectors q m factors)
    (hb : AreVectors q m base) (u : List ℕ) (hu : IsVector q (length factors) u) where
  abbrev s : ℕ
  s = length factors

  abbrev rows : List (List ℕ)
  rows = factors ++ base

  abbrev runs : List (List ℕ)
  runs = runs_of q m rows

  some : 0 < q
  some = omega arith

  front : take s rows ≡ factors
  front = take-append_seam factors base

  behind : drop s rows ≡ base
  behind = drop-append_seam factors base

  -- no run is in a block past the last
  in-block : (z : ℕ) → q ^ length base ≤ z → IsConstant q u (block q s z runs)
  unfolding runs_of
  in-block z past = (
    0,
    All-from_recursion _ _
        (held _ _ runs
        (each-map (λ x. eqb (number q (drop s x)) z ≡ true → dot q u x ≡ 0) (levels_at q rows) (points q m)
        (recursion_from_All _ _
        (all-points q m some
        (λ p. eqb (number q (drop s (levels_at q rows p))) z ≡ true → dot q u (levels_at q rows p) ≡ 0)
        (λ p hp e.
        let is : drop s (levels_at q rows p) ≡ levels_at q base p =
        cc (drop-map (λ r. dot q r p) s rows, behind) in
        let low =
        number-below q _ _ (levels-vector q f base p) in
        let same : number q (levels_at q base p) ≡ z = cc (eqb-true _ _ e) in
        absurd (omega arith)))))),
  )

  each-block : is_constant_in_blocks q s (q ^ length base) u runs ≡ true → IsConstantInBlocks q s u runs
  unfolding is_constant_in_blocks
  each-block h z = elim (cases_lt z (q ^ length base)) [
    | inl low ↦ (constant_decides q f u (block q s z runs)).0
        ((range_decides (λ z. is_constant q u (block q s z runs)) (q ^ length base)).0 h z low)
    | inr past ↦ in-block z past
  ]

  blocks-each : IsConstantInBlocks q s u runs → is_constant_in_blocks q s (q ^ length base) u runs ≡ true
  unfolding is_constant_in_blocks
  blocks-each h = (range_decides (λ z. is_constant q u (block q s z runs)) (q ^ length base)).1
      (λ z low. (constant_decides q f u (block q s z runs)).1 (h z))

  -- constant in each group where the sum is in the base
  pub in-blocks : is_constant_in_blocks q s (q ^ length base) u runs ≡ in_span q m base (combination q m u factors)
  in-blocks =
      let v = combination q m u factors in
      elim (constant_or_balanced q m s f rows u hu (subst (AreVectors q m) (sym front) hf)
      (subst (AreVectors q m) (sym behind) hb)) [
        | inl h ↦
            cc (
              blocks-each h.1,
              (in_span-holds q m f base v
                  (rw front at (rw behind at h.0))),
            )
        | inr h ↦
            bool_same _ _ (λ e. absurd (h.2 (each-block e)))
            (λ e. absurd (h.0 (rw behind
            (rw front (in_span-true q m f base v hb (combination-vector q m f u factors hf) e)))))
      ]

  -- and over all runs where it is zero
  pub over-all : is_constant q u (runs_of q m factors) ≡ is_zero (combination q m u factors)
  over-all =
      let v = combination q m u factors in
      bool_same _ _
      (λ e. ap is_zero ((zero_sum_decides q m f factors hf u).0 e) ∙ eq-eqb _ 0 (weight-zeros m))
      (λ e. (zero_sum_decides q m f factors hf u).1
      (zeros_from_weight v m (combination-vector q m f u factors hf).len (eqb-true _ 0 e)))

module _ (q m : ℕ) (f : IsField q) where
  -- of all vectors only zero is zero
  zero-pick : (n : ℕ) (h : List ℕ → ℕ) → sum_by (λ u. cond (is_zero u) (h u) 0) (points q n) ≡ h (zeros n)
  zero-pick zero h = sum_by-cons (λ u. cond (is_zero u) (h u) 0) [] []
      ∙ (let e : h [] + 0 ≡ h [] = omega arith in e)
  zero-pick (suc n) h =
      let g : ℕ → ℕ = λ c. sum_by (λ p. cond (is_zero (c ∷ p)) (h (c ∷ p)) 0) (points q n) in
      let first : g 0 ≡ h (0 ∷ zeros n) =
      sum_by-ext _ _ (points q n) (λ p. ap (λ b. cond b (h (0 ∷ p)) 0)
      (ap (λ k. eqb k 0) (sum_by-cons (λ c. cond (nat_lt 0 c) 1 0) 0 p
      ∙ (let e : 0 + weight p ≡ weight p = omega arith in e))))
      ∙ zero-pick n (λ p. h (0 ∷ p)) in
      let others : (c : ℕ) → 1 ≤ c → g c ≡ 0 = λ c some.
      sum_by-ext _ _ (points q n) (λ p. cc (not-zero c p some)) ∙ sum_by-zero (points q n)
      in
      points-sum q n (λ u. cond (is_zero u) (h u) 0)
      ∙ ap (λ k. sum_by g (range_with_len 0 k)) (let e : q ≡ suc (q - 1) = omega arith in e)
      ∙ sum_by-cons g 0 (range_with_len 1 (q - 1))
      ∙ ap₂ (λ a b. a + b) first
      (sum_by-same g (λ c. 0) 1 (q - 1) (λ c low high. others c low) ∙ sum_by-zero (range_with_len 1 (q - 1)))
      ∙ (let e : h (0 ∷ zeros n) + 0 ≡ h (0 ∷ zeros n) = omega arith in e)
    where
      not-zero : (c : ℕ) (p : List ℕ) → 1 ≤ c → is_zero (c ∷ p) ≡ false
      not-zero c p some =
          let e = sum_by-cons (λ c. cond (nat_lt 0 c) 1 0) c p in
          let bit : cond {A = ℕ} (nat_lt 0 c) 1 0 ≡ 1 = cc (lt-ltb 0 c some) in
          ne_eqb _ 0 (λ z. omega arith)

  -- the words of the first rows alone
  front-words : (g : ℕ → List ℕ → ℕ) (xs ys : List (List ℕ)) → AreVectors q m ys
      → sum_by (λ u. cond (is_zero (drop (length xs) u)) (g (weight u) (combination q m u (xs ++ ys))) 0)
      (points q (length (xs ++ ys)))
      ≡ total q m f g xs
  front-words g [] ys hy =
      zero-pick (length ys) (λ u. g (weight u) (combination q m u ys))
      ∙ ap₂ (λ j v. g j v) (weight-zeros (length ys)) (none-combination q m f (length ys) ys hy)
      ∙ sym (sum_by-cons (λ u. g (weight u) (combination q m u [])) [] []
      ∙ (let e : g 0 (zeros m) + 0 ≡ g 0 (zeros m) = omega arith in e))
  front-words g (x ∷ xs) ys hy =
      let rest : ℕ → ℕ → List ℕ → ℕ = λ c j v. g (cond (nat_lt 0 c) 1 0 + j) (plus q (scale q c x) v) in
      points-sum q (length (xs ++ ys))
      (λ u. cond (is_zero (drop (suc (length xs)) u)) (g (weight u) (combination q m u (x ∷ (xs ++ ys)))) 0)
      ∙ sum_by-ext _ _ (codes_of q) (λ c.
      sum_by-ext _ _ (points q (length (xs ++ ys))) (λ p.
      cc (sum_by-cons (λ c. cond (nat_lt 0 c) 1 0) c p))
      ∙ front-words (rest c) xs ys hy)
      ∙ sym (total-cons q m f g x xs)

parted : (z : Bool) (n : ℕ) → cond z n 0 + cond (not z) n 0 ≡ n
parted true n = omega arith
parted false n = omega arith

arranged : (z i o w : Bool)
    → cond {A = ℕ} ((not z && (i && not o)) && w) 1 0 ≡ cond (not z) (cond {A = ℕ} ((not o && i) && w) 1 0) 0
arranged true i o w = refl
arranged false true true w = refl
arranged false true false w = refl
arranged false false true w = refl
arranged false false false w = refl

turned-and : (a b : Bool) → cond {A = ℕ} (a && b) 1 0 ≡ cond {A = ℕ} (b && a) 1 0
turned-and true true = refl
turned-and true false = refl
turned-and false true = refl
turned-and false false = refl

-- what is the same of each vector adds up to the same
pub each-point : (q n : ℕ) → 0 < q → (g h : List ℕ → ℕ) → ((u : List ℕ) → IsVector q n u → g u ≡ h u)
    → sum_by g (points q n) ≡ sum_by h (points q n)
each-point q n positive g h same =
    sum_by-each g h _ (recursion_from_All _ _ (all-points q n positive (λ u. g u ≡ h u) same))

module _ (x : Strata) (f : IsField x.q) (base factors : List (List ℕ)) (hb : AreVectors x.q x.m base)
    (hf : AreVectors x.q x.m factors) (enough : x.w ≤ length factors) where
  n : ℕ
  n = length factors

  positive : 0 < x.q
  positive = omega arith

  pub words-are-sums : (b : Bool) (k : ℕ) → words_of x base factors b k ≡ sums_of x base factors b k
  unfolding constant_words words_in
  words-are-sums false k = each-point x.q (length factors) positive
      (λ u. cond (eqb (weight u) k && is_constant x.q u (runs_of x.q x.m factors)) 1 0)
      (λ u. cond (is_zero (combination x.q x.m u factors) && eqb (weight u) k) 1 0)
      (λ u hu. cc (
        turned-and (eqb (weight u) k) (is_constant x.q u (runs_of x.q x.m factors)),
        over-all x.q x.m f factors base hf hb u hu,
      ))
  words-are-sums true k =
      let g = counted x.q x.m f (is_in_base x base) k in
      let at : List ℕ → ℕ = λ u. g (weight u) (combination x.q x.m u factors) in
      let ps = points x.q (length factors) in
      let here =
      each-point x.q (length factors) positive (λ u. cond (is_confounded x base factors u && eqb (weight u) k) 1 0)
      (λ u. cond (not (is_zero (drop x.w u))) (at u) 0)
      (λ u hu.
      cc (
        arranged (is_zero (drop x.w u))
            (is_constant_in_blocks x.q (length factors) (x.q ^ length base) u (runs_of x.q x.m (factors ++ base)))
            (is_constant x.q u (runs_of x.q x.m factors)) (eqb (weight u) k),
        in-blocks x.q x.m f factors base hf hb u hu,
        over-all x.q x.m f factors base hf hb u hu,
      )) in
      let lw : length (take x.w factors) ≡ x.w = (let e = length-take x.w factors in omega arith) in
      let firsts : sum_by (λ u. cond (is_zero (drop x.w u)) (at u) 0) ps ≡ total x.q x.m f g (take x.w factors) =
      rw (take-append-drop x.w factors) at (subst (λ w. sum_by (λ u. cond (is_zero (drop w u)) (g (weight u)
      (combination x.q x.m u (take x.w factors ++ drop x.w factors))) 0)
      (points x.q (length (take x.w factors ++ drop x.w factors))) ≡ total x.q x.m f g (take x.w factors)) lw
      (front-words x.q x.m f g (take x.w factors) (drop x.w factors)
      (each-drop (λ r. IsVector x.q x.m r) x.w factors hf))) in
      let both : sum_by at ps ≡ sum_by (λ u. cond (is_zero (drop x.w u)) (at u) 0) ps
      + sum_by (λ u. cond (not (is_zero (drop x.w u))) (at u) 0) ps =
      sym (sum_by-ext _ _ ps (λ u. parted (is_zero (drop x.w u)) (at u)))
      ∙ sum_by-plus (λ u. cond (is_zero (drop x.w u)) (at u) 0) (λ u. cond (not (is_zero (drop x.w u))) (at u) 0) ps in
      let whole : words_in x.q x.m (is_in_base x base) factors k ≡ sum_by at ps = refl in
      let part : words_in x.q x.m (is_in_base x base) (take x.w factors) k ≡ total x.q x.m f g (take x.w factors) =
      refl in
      omega arith
