-- A design has fewer block factors than run indexes: what is to be estimated is no combination of block rows, so that
-- with one block row more the blocks would still be even.
use Rattle.std.proofs.Common.{ℕ, ◌≡◌, ◌<◌, ◌≤◌, ◌+◌, ◌-◌, ◌^◌, ◌==◌, zero, suc, true, List, [], ◌∷◌, ◌++◌, length, drop}
use Rattle.std.proofs.Common.{map, take, refl, sym, subst, ◌∙◌, ap, ap₂, arith, inl, inr}
use Rattle.std.specs.Prelude.{if◌then◌else◌}
use Rattle.std.specs.List.{AllByRecursion}
use Rattle.std.proofs.lemmas.Bool.{cases_eq, eq-eqb, or_left}
use Rattle.std.proofs.lemmas.List.{take-append-drop}
use Rattle.std.proofs.lemmas.List.Elements.{All-head}
use Rattle.std.proofs.Math.Seq.{drop-append_seam}
use Rattle.fx_designs.specs.Galois.{IsField, digits, mul, neg}
use Rattle.fx_designs.specs.Vectors.{IsVector, combination, dot, plus, scale, vectors_of, weight, zeros}
use Rattle.fx_designs.specs.Runs.{levels_at}
use Rattle.fx_designs.specs.Problems.{Dimensions, Requirement, AtResolution, ForEffects}
use Rattle.fx_designs.specs.Demands.{effect_of, is_met}
use Rattle.fx_designs.specs.Matrices.{IsRuleMatrix}
use Rattle.fx_laws.specs.Raises.{IsAllowed}
use Rattle.fx_laws.specs.Spans.{InSpan, Separates}
use Rattle.fx_laws.proofs.Changes.{scale-none}
use Rattle.fx_laws.proofs.Codes.{digits-vector, number-digits, number-weight}
use Rattle.fx_laws.proofs.Weights.{weight-some, weight-zeros}
use Rattle.fx_laws.proofs.Linear.{dot-levels, dot-plus, dot-scale, dot-zeros}
use Rattle.fx_laws.proofs.Raises.{none-combination, scale-combination}
use Rattle.fx_laws.proofs.Ranks.{zeros-plus}
use Rattle.fx_laws.proofs.Separation.{separate}
use Rattle.fx_laws.proofs.Space.{AreVectors, combination-vector, ext, scale-vector, zeros-vector}
use Rattle.fx_reduction.specs.Forbidden.{IsForbidden, IsToEstimate}
use Rattle.fx_reduction.proofs.BlockCounts.{no_more_blocks}
use Rattle.fx_reduction.proofs.BlockValues.{even_blocks}
use Rattle.fx_reduction.proofs.Cancelling.{negated_twice}
use Rattle.fx_reduction.proofs.Forbidden.{estimated-balanced, zeros_or}
use Rattle.fx_reduction.proofs.Independent.{AreIndependent}
use Rattle.fx_reduction.proofs.Kept.{allowed_facts, block-vectors, factor-vectors}
use Rattle.fx_reduction.proofs.NoDesign.{met_exactly, named_matrix}
use Rattle.fx_reduction.specs.Reduction.{IsReducible}
use Rattle.fx_vectors.specs.Question.{CanBeTold}
use Rattle.fx_statements.specs.Valid.{CanBeRequired}

-- a row that is 1 at a point where independent rows are 0 is independent of them
module _ (q m : ℕ) (f : IsField q) (rows : List (List ℕ)) (hr : AreVectors q m rows) (v : List ℕ) (hv : IsVector q m v)
    (free : AreIndependent q m f rows) (p : List ℕ) (apart : Separates q m rows v p) where
  at_point : (c : ℕ) (b : List ℕ) → c < q → dot q (combination q m (c ∷ b) (v ∷ rows)) p ≡ c
  at_point c b low =
      cc (
        dot-plus q f (scale q c v) (combination q m b rows) p,
        dot-scale q f c v p,
        f.mul_one c low,
        (sym (dot-levels q f m b rows p) ∙ none b apart.none),
        f.add_zero c low,
      )
    where
      zero_dot : (b : List ℕ) (n : ℕ) → dot q b (zeros n) ≡ 0
      zero_dot [] n = refl
      zero_dot (a ∷ b) zero = refl
      zero_dot (a ∷ b) (suc n) =
          cc (f.mul_zero a, zero_dot b n, f.add_zero 0 (omega arith))

      none : (b : List ℕ) → levels_at q rows p ≡ zeros (length rows) → dot q b (levels_at q rows p) ≡ 0
      none b e = cc (zero_dot b (length rows))

  pub one_more_row : AreIndependent q m f (v ∷ rows)
  one_more_row [] h some e = absurd (omega arith)
  one_more_row (c ∷ b) h some e =
      let none : c ≡ 0 = cc (at_point c b h.codes.0, dot-zeros q f m p) in
      let others : combination q m b rows ≡ zeros m =
      cc (scale-none q m f v hv, zeros-plus q m f _ (combination-vector q m f b rows hr)) in
      free b (record { len = (omega arith); codes = h.codes.1 })
      (λ z. some (ap₂ (λ c b. c ∷ b) none z)) others

-- a vector to be estimated
pub record HasEstimated (d : Dimensions) (wanted : Requirement) : Type 0 where
  pub u : List ℕ
  pub vector : IsVector d.q d.s u
  pub estimated : IsToEstimate d.q d.s wanted u

module _ (d : Dimensions) (f : IsField d.q) (wanted : Requirement) (some : HasEstimated d wanted)
    (xs ys : List (List ℕ)) (hm : IsRuleMatrix d xs ys)
    (allowed : IsAllowed d.q d.m (IsForbidden d.q d.s d.t wanted) xs ys) where
  hx : AreVectors d.q d.m xs
  hx = factor-vectors d f xs ys hm

  hy : AreVectors d.q d.m ys
  hy = block-vectors d f xs ys hm

  abbrev v : List ℕ
  v = combination d.q d.m some.u xs

  hv : IsVector d.q d.m v
  hv = combination-vector d.q d.m f some.u xs hx

  over_factors : (u : List ℕ) → IsVector d.q d.s u → IsVector d.q (length xs) u
  over_factors u h = rw hm.factor_count h

  free : AreIndependent d.q d.m f ys
  free b hb nonzero e =
      allowed.none (zeros d.s) b (over_factors _ (zeros-vector d.q d.s f)) hb
      (inr ((λ z. nonzero (z ∙ ap zeros (sym hm.block_count))), inl refl))
      (ap₂ (plus d.q) (none-combination d.q d.m f d.s xs hx) e
      ∙ zeros-plus d.q d.m f _ (zeros-vector d.q d.m f))

  -- what is to be estimated is no combination of block rows
  no_combination : InSpan d.q d.m ys v → ⊥
  no_combination i =
      let minus_one = neg d.q 1 in
      let b = scale d.q minus_one i.by in
      let hb = scale-vector d.q _ f minus_one i.by i.vector in
      let bad : IsForbidden d.q d.s d.t wanted some.u b =
      elim (zeros_or d.q f d.t b (rw hm.block_count at hb)) [
        | inl z ↦ inl (z, estimated-balanced d.q f d.s wanted some.u some.estimated)
        | inr nonzero ↦ inr (nonzero, inr some.estimated)
      ] in
      let opposite : combination d.q d.m b ys ≡ scale d.q minus_one v =
      ext d.q d.m f _ _ (combination-vector d.q d.m f b ys hy) (scale-vector d.q d.m f minus_one v hv)
      (λ p. scale-combination d.q d.m f minus_one i.by ys p ∙ ap (λ w. mul d.q minus_one (dot d.q w p)) i.gives
      ∙ sym (dot-scale d.q f minus_one v p)) in
      allowed.none some.u b (over_factors some.u some.vector) hb bad
      (ap (plus d.q v) opposite ∙ negated_twice d.q f d.m v hv)

  pub fewer_blocks : d.t < d.m
  fewer_blocks = elim (separate d.q d.m f ys v hy hv) [
    | inl i ↦ absurd (no_combination i)
    | inr at ↦
        let rows : List (List ℕ) = xs ++ v ∷ ys in
        let rest =
        rw hm.factor_count at (drop-append_seam xs (v ∷ ys)) in
        let long = ap length rest ∙ ap suc hm.block_count in
        let vectors : AreVectors d.q d.m (drop d.s rows) = subst (AreVectors d.q d.m) (sym rest) (hv, hy) in
        let more : AreIndependent d.q d.m f (drop d.s rows) =
        subst (AreIndependent d.q d.m f) (sym rest) (one_more_row d.q d.m f ys hy v hv free at.0 at.1) in
        let few =
        no_more_blocks d.q d.m d.s _ f rows long vectors
        (even_blocks d.q d.m d.s _ f rows long vectors more) in
        omega arith
  ]

-- so a design has fewer block factors than run indexes
pub fewer_than_indexes : (d : Dimensions) (f : IsField d.q) (wanted : Requirement) → HasEstimated d wanted
    → (rows : List ℕ) → length rows ≡ d.s + d.t → is_met d wanted rows ≡ true → d.t < d.m
unfolding is_met
fewer_than_indexes d f wanted some rows whole met =
    let rules = vectors_of d.q d.m rows in
    let factors = take d.s rules in
    let blocks = drop d.s rules in
    let hm = named_matrix d f wanted rows whole in
    fewer_blocks d f wanted some factors blocks hm
    ((allowed_facts d f wanted factors blocks hm.factor_count hm.block_count).0
    ((met_exactly d f wanted factors blocks hm).0
    (rw (← (take-append-drop d.s rules)) at met)))

-- under a resolution of at least 3 the first factor is to be estimated
pub resolution-estimated : (d : Dimensions) (f : IsField d.q) (r : ℕ) → 3 ≤ r → 1 ≤ d.s
    → HasEstimated d (AtResolution r)
resolution-estimated d f r three some =
    let n = d.s - 1 in
    let z = zeros-vector d.q n f in
    let one : weight (1 ∷ zeros n) ≡ 1 =
    cc (weight-some 1 (zeros n) (omega arith), weight-zeros n) in
    record {
      u = 1 ∷ zeros n;
      vector = record { len = (omega arith); codes = (f.more_than_one, z.codes) };
      estimated = (omega arith, omega arith);
    }

-- codes below 2 as they are
same_bits : (u : List ℕ) → AllByRecursion (λ c. c < 2) u → map (λ a. if a == 0 then 0 else 1) u ≡ u
same_bits [] h = refl
same_bits (a ∷ u) h = cc (bit a h.0, same_bits u h.1)
  where
    bit : (a : ℕ) → a < 2 → (if a == 0 then 0 else 1) ≡ a
    bit a low = grind arith

below_order : (q : ℕ) (u : List ℕ) → 2 ≤ q → AllByRecursion (λ c. c < 2) u → AllByRecursion (λ c. c < q) u
below_order q [] two h = tt
below_order q (a ∷ u) two h = (omega arith, below_order q u two h.1)

-- of effects the first of those to be estimated has a vector
pub effects-estimated : (d : Dimensions) (f : IsField d.q) (estimate besides : List ℕ)
    → CanBeTold d.q d.s estimate besides
    → HasEstimated d (ForEffects estimate besides)
effects-estimated d f [] besides told = absurd (omega arith)
effects-estimated d f (e ∷ estimate) besides told =
    let each : (0 < e) × (e < 2 ^ d.s) = All-head (λ e. (0 < e) × (e < 2 ^ d.s)) e estimate told.estimated.each in
    let u = digits 2 d.s e in
    let h = digits-vector 2 d.s e (omega arith) in
    let back = number-digits 2 d.s e (omega arith) each.1 in
    let effect : effect_of u ≡ e = cc (same_bits u h.codes) in
    let vector : IsVector d.q d.s u =
    record { len = h.len; codes = below_order d.q u (omega arith) h.codes } in
    record {
      u = u;
      vector = vector;
      estimated = record {
        vector = vector;
        some = elim (cases_eq (weight u) 0) [
          | inl none ↦ absurd (let zero : e ≡ 0 = cc (number-weight 2 u none) in omega (arith, zero, each.0))
          | inr more ↦ omega arith
        ];
        effect = or_left _ _ (eq-eqb e (effect_of u) (sym effect));
      };
    }

-- and so there is one for each requirement of a step
pub requirement-estimated : (d : Dimensions) (f : IsField d.q) (requirement : Requirement) → IsReducible requirement
    → 1 ≤ d.s → CanBeRequired d.q d.s requirement → HasEstimated d requirement
requirement-estimated d f (AtResolution r) three one told = resolution-estimated d f r three one
requirement-estimated d f (ForEffects estimate besides) three one told =
    effects-estimated d f estimate besides told.0
