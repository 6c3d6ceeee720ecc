-- The questions of a step are valid.
use Rattle.std.proofs.Common.{ℕ, ◌≡◌, ◌<◌, ◌≤◌, ◌+◌, ◌-◌, ◌^◌, ◌||◌, ◌&&◌, Bool, true, false, List, [], ◌∷◌, length}
use Rattle.std.proofs.Common.{refl, sym, ap, ◌∙◌, subst, arith, inl, inr, IsTrue, eqb, eqb-true}
use Rattle.std.specs.Prelude.{nat_le, max, if◌then◌else◌}
use Rattle.std.specs.List.{list_any, list_all}
use Rattle.std.proofs.lemmas.Bool.{leb-true, leb-false, ltb-true, ltb-false, cases_Bool, and_parts, both_ways, not-true}
use Rattle.std.proofs.lemmas.Bool.{cond-true, cond-false}
use Rattle.std.proofs.Math.Nat.{pow-le-pow_left, pow-le-pow_right, pow-zero}
use Rattle.fx_designs.specs.Galois.{is_order}
use Rattle.fx_designs.specs.Problems.{Requirement, AtResolution, ForEffects}
use Rattle.fx_vectors.specs.Question.{CanBeAsked, is_resolution}
use Rattle.fx_settings.specs.declared.settings.StepSettings.{StepSettings}
use Rattle.fx_settings.specs.declared.settings.Size.{Size}
use Rattle.fx_settings.specs.declared.settings.Size.TheVariants.{Runs, Minimum}
use Rattle.fx_settings.specs.declared.settings.Blocks.{Blocks}
use Rattle.fx_settings.specs.declared.settings.Blocks.TheVariants as blocks
use Rattle.fx_settings.specs.Sizes.{is_minimum}
use Rattle.fx_settings.specs.Models.{is_criterion, is_effects, is_highest}
use Rattle.fx_settings.specs.Powers.{greatest}
use Rattle.fx_settings.specs.Settings.{is_level}
use Rattle.fx_settings.specs.Valid.{are_blocks, is_size, has_blocks, has_most, stand_together}
use Rattle.fx_settings.specs.declared.settings.Criterion.{Criterion}
use Rattle.fx_settings.specs.declared.settings.Criterion.TheVariants as criterion
use Rattle.fx_vectors.specs.declared.shape.TheConstants.{MOST_FACTORS, MOST_FACTORS_IN_BLOCKS}
use Rattle.fx_statements.specs.declared.step.Step.{Step}
use Rattle.fx_statements.specs.Requirements.{IsOfKind}
use Rattle.fx_statements.specs.Valid.{CanBeRequired, most_factors_of}
use Rattle.fx_statements.specs.Steps.{Meaning, meaning_of}
use Rattle.fx_statements.specs.Questions.{block_factors, highest, least_exponent, lowest, requirement_for, run_factors}
use Rattle.fx_statements.specs.Questions.{seeks_highest}
use Rattle.fx_statements.proofs.Bounds.{no_more_than_9, most_of_all, most_of_many}
use Rattle.fx_statements.proofs.Bounds as bounds
use Rattle.fx_answer.specs.Standing.{IsShapeOf}
use Rattle.fx_answer.specs.ValidSteps.{IsValidStep}

-- what holds at each of some numbers of levels holds at one of them
pub at_level : (levels : List ℕ) (P : ℕ → Bool) (q : ℕ) → list_all P levels ≡ true
    → list_any (λ x. eqb x q) levels ≡ true
    → P q ≡ true
at_level [] P q all among = absurd (both_ways _ refl among)
at_level (x ∷ levels) P q all among =
    let both = and_parts _ _ all in
    elim (cases_Bool (eqb x q)) [
      | inl same ↦ rw (← (eqb-true x q same)) both.0
      | inr other ↦ at_level levels P q both.1 (ap (λ b. b || list_any (λ x. eqb x q) levels) (sym other) ∙ among)
    ]

abbrev levels : List ℕ
levels = 2 ∷ 3 ∷ 4 ∷ 5 ∷ 7 ∷ 8 ∷ 9 ∷ []

-- the levels that a step may have are the orders of fields, at least 2, and the runs of the greatest size at most 1,024
pub order_of : (q : ℕ) → is_level q ≡ true → IsTrue (is_order q)
order_of q h = at_level levels is_order q refl h

most_runs : (q : ℕ) → is_level q ≡ true → q ^ greatest q ≤ 1024
most_runs q h = leb-true _ 1024 (at_level levels (λ q. nat_le (q ^ greatest q) 1024) q refl h)

pub some_size : (q : ℕ) → is_level q ≡ true → 1 ≤ greatest q
some_size q h = leb-true 1 _ (at_level levels (λ q. nat_le 1 (greatest q)) q refl h)

power_up : (q i j : ℕ) → 2 ≤ q → i ≤ j → q ^ i ≤ q ^ j
power_up q i j h le = pow-le-pow_right (omega arith) le

-- as many block factors as 1,024 blocks have are at most ten
pub few_factors : (q t : ℕ) → 2 ≤ q → q ^ t ≤ 1024 → t ≤ 10
few_factors q t h few = elim (cases_Bool (nat_le t 10)) [
  | inl le ↦ leb-true t 10 le
  | inr more ↦
      let many = leb-false t 10 more in
      let low : 2 ^ 11 ≤ q ^ t =
      omega (
        arith,
        pow-le-pow_left {n = 2} {m = q} h 11,
        pow-le-pow_right {n = q} (omega arith) {i = 11}
            {j = t} (omega arith),
      ) in
      absurd (omega arith)
]

-- the numbers of runs
runs_fit : (size : Size) (q n : ℕ) → is_level q ≡ true → is_size q size ≡ true
    → (size ≡ Minimum → (1 ≤ n) × (n ≤ greatest q))
    → (1 ≤ run_factors size n) × (q ^ run_factors size n ≤ 1024)
runs_fit (Runs m) q n level sized bounds =
    let both = and_parts _ _ sized in
    (leb-true 1 m both.0, leb-true _ 1024 both.1)
runs_fit Minimum q n level sized bounds =
    let b = bounds refl in
    let up = power_up q n _ (no_more_than_9 q level).0 b.1 in
    let most = most_runs q level in
    (b.0, omega arith)

-- and of blocks
blocks_fit : (size : Size) (given : Blocks) (q n : ℕ) → 2 ≤ q → are_blocks q size given ≡ true
    → q ^ run_factors size n ≤ 1024 → (has_most given ≡ true → n ≤ run_factors size n)
    → q ^ block_factors given (run_factors size n) n ≤ 1024
blocks_fit size blocks.Without q n h are runs most = let one = pow-zero q in omega arith
blocks_fit (Runs m) (blocks.Factors t) q n h are runs most =
    let up = power_up q t m h (ltb-false m t (not-true _ (and_parts _ _ are).1)) in
    omega (arith, runs)
blocks_fit Minimum (blocks.Factors t) q n h are runs most =
    ltb-false 1024 _ (not-true _ (and_parts _ _ are).1)
blocks_fit size (blocks.PerBlock k) q n h are runs most =
    let up = power_up q (run_factors size n - k) (run_factors size n) h (omega arith) in
    omega (arith, runs)
blocks_fit size blocks.Most q n h are runs most =
    let up = power_up q n _ h (most refl) in
    omega (arith, runs)

-- with block factors there are fewer factors
few_in_blocks : (q : ℕ) (given : Blocks) (s m n : ℕ) → s ≤ most_factors_of q (has_blocks given)
    → 0 < block_factors given m n → s ≤ MOST_FACTORS_IN_BLOCKS
few_in_blocks q blocks.Without s m n few some = absurd (omega arith)
few_in_blocks q (blocks.Factors t) s m n few some = few
few_in_blocks q (blocks.PerBlock k) s m n few some = few
few_in_blocks q blocks.Most s m n few some = few

-- the numbers for which a step asks
module _ (step : Meaning) (n : ℕ) where
  sizes : lowest step Minimum ≤ n → n ≤ highest step Minimum → (1 ≤ n) × (n ≤ greatest step.settings.q)
  sizes low high = (above step.settings.blocks low, high)
    where
      above : (given : Blocks) → least_exponent given ≤ n → 1 ≤ n
      above blocks.Without h = h
      above (blocks.Factors t) h = h
      above (blocks.PerBlock k) h = omega arith
      above blocks.Most h = h

  block_numbers : (size : Size) → n ≤ highest step size → has_most step.settings.blocks ≡ true → n ≤ run_factors size n
  block_numbers (Runs m) high most = rw (cond-true _ _ _ most) at high
  block_numbers Minimum high most = omega arith

  resolutions : (size : Size) → is_minimum size ≡ false → has_most step.settings.blocks ≡ false
      → length step.factors ≤ MOST_FACTORS → lowest step size ≤ n → n ≤ highest step size
      → seeks_highest step.settings ≡ true → (3 ≤ n) × (n ≤ 99)
  resolutions Minimum fixed one few low high seeks = absurd (both_ways _ fixed refl)
  resolutions (Runs m) fixed one few low high seeks =
      let from : 3 ≤ n = rw (cond-false _ _ _ one) at low in
      let upto : n ≤ max 3 (length step.factors + 1) =
      subst (λ k. n ≤ k) (cond-false _ _ _ one ∙ cond-true _ _ _ seeks) high in
      (from, omega arith)

-- what is required may be asked
can_be_asked : (q m s t : ℕ) (kind : Criterion) (requirement : Requirement) → is_criterion kind ≡ true
    → IsOfKind kind requirement → CanBeRequired q s requirement
    → CanBeAsked (record { q = q; m = m; s = s; t = t }) requirement
can_be_asked q m s t (criterion.Resolution r) (AtResolution k) valid is askable =
    let both = and_parts _ _ valid in
    let same : k ≡ r = cc in
    (omega (arith, leb-true 3 r both.0), omega (arith, leb-true r 99 both.1))
can_be_asked q m s t criterion.Highest (AtResolution k) valid is askable =
    let same : k ≡ 3 = cc in (omega arith, omega arith)
can_be_asked q m s t criterion.Effects (AtResolution k) valid is askable = cc is
can_be_asked q m s t kind (ForEffects estimate others) valid is askable = askable.0

and_false : (b : Bool) → (b && false) ≡ false
and_false true = refl
and_false false = refl

-- with a least pattern the resolution is not free
pub seeks_with_least : (x : StepSettings) → x.least ≡ true → seeks_highest x ≡ false
seeks_with_least x h = rw h (and_false _)

-- where it is, the highest is the criterion, and no least pattern is asked
is_sought : (x : StepSettings) → seeks_highest x ≡ true → (is_highest x.criterion ≡ true) × (x.least ≡ false)
is_sought x h =
    let both = and_parts _ _ h in (both.0, not-true x.least both.1)

resolution_required : (kind : Criterion) (requirement : Requirement) → IsOfKind kind requirement
    → is_effects kind ≡ false → is_resolution requirement ≡ true
resolution_required (criterion.Resolution r) requirement is h = rw is
resolution_required criterion.Highest requirement is h = rw is
resolution_required criterion.Effects requirement is h = cc h

-- with a least pattern a resolution is asked, and no blocks are
module _ (size : Size) (given : Blocks) (kind : Criterion) (together : stand_together size kind true given ≡ true) where
  no_effects : is_effects kind ≡ false
  no_effects = not-true _ (and_parts _ _ (and_parts _ _ together).0).0

  without_blocks : (m n : ℕ) → block_factors given m n ≡ 0
  without_blocks m n = go given (and-false _ (not-true _ (and_parts _ _ (and_parts _ _ together).0).1))
    where
      and-false : (b : Bool) → (b && true) ≡ false → b ≡ false
      and-false true h = absurd (both_ways _ h refl)
      and-false false h = refl

      go : (given : Blocks) → has_blocks given ≡ false → block_factors given m n ≡ 0
      go blocks.Without h = refl
      go (blocks.Factors t) h = absurd (both_ways _ h refl)
      go (blocks.PerBlock k) h = absurd (both_ways _ h refl)
      go blocks.Most h = absurd (both_ways _ h refl)

-- the parts of a valid step
module _ (step : Meaning) (valid : IsValidStep step) where
  abbrev x : StepSettings
  x = step.settings

  criterion_fits : is_criterion x.criterion ≡ true
  criterion_fits = (and_parts _ _ (and_parts _ _ (and_parts _ _ valid.settings).0).0).1

  together : stand_together x.size x.criterion x.least x.blocks ≡ true
  together = (and_parts _ _ valid.settings).1

  some_factors : 1 ≤ length step.factors
  some_factors = leb-true 1 _ (and_parts _ _ valid.factors).0

  counted_in : length step.factors ≤ most_factors_of x.q (has_blocks x.blocks)
  counted_in = leb-true _ _ (and_parts _ _ valid.factors).1

  few_factors_in : length step.factors ≤ MOST_FACTORS
  few_factors_in = omega (arith, counted_in, most_of_all x.q (has_blocks x.blocks))

  -- where the highest resolution is sought, the size is fixed, and not the most blocks are asked
  fixed : seeks_highest x ≡ true → is_minimum x.size ≡ false
  fixed seeks =
      go x.size _ (is_sought x seeks).0
      (not-true _ (and_parts _ _ together).1)
    where
      go : (size : Size) (highest : Bool) → highest ≡ true
          → (is_minimum size && (highest || x.least || has_most x.blocks)) ≡ false → is_minimum size ≡ false
      go (Runs m) highest h out = refl
      go Minimum true h out = absurd (both_ways _ out refl)
      go Minimum false h out = absurd (both_ways _ refl h)

  unblocked : seeks_highest x ≡ true → has_most x.blocks ≡ false
  unblocked seeks =
      go x.blocks _ x.least sought.0 sought.1
      (not-true _ (and_parts _ _ (and_parts _ _ together).0).1)
    where
      sought : (is_highest x.criterion ≡ true) × (x.least ≡ false)
      sought = is_sought x seeks

      go : (given : Blocks) (highest least : Bool) → highest ≡ true → least ≡ false
          → (has_blocks given && (least || (highest && has_most given))) ≡ false → has_most given ≡ false
      go blocks.Without highest least h plain out = refl
      go (blocks.Factors t) highest least h plain out = refl
      go (blocks.PerBlock k) highest least h plain out = refl
      go blocks.Most true least h plain out = absurd (both_ways _ out (ap (λ b. b || true) plain))
      go blocks.Most false least h plain out = absurd (both_ways _ refl h)

  module _ (n : ℕ) (low : lowest step x.size ≤ n) (high : n ≤ highest step x.size) where
    abbrev m : ℕ
    m = run_factors x.size n

    level : is_level x.q ≡ true
    level = bounds.level x valid.settings

    sized : is_size x.q x.size ≡ true
    sized = bounds.size x valid.settings

    given : are_blocks x.q x.size x.blocks ≡ true
    given = bounds.given x valid.settings

    minimum : x.size ≡ Minimum → (1 ≤ n) × (n ≤ greatest x.q)
    minimum is = sizes step n (rw is at low) (rw is at high)

    runs : (1 ≤ m) × (x.q ^ m ≤ 1024)
    runs = runs_fit x.size x.q n level sized minimum

    few_blocks : x.q ^ block_factors x.blocks m n ≤ 1024
    few_blocks =
        blocks_fit x.size x.blocks x.q n (no_more_than_9 x.q level).0 given runs.1 (block_numbers step n x.size high)

    -- the shape of the question for n is one of the step
    pub shape_valid : IsShapeOf step
        (record { q = x.q; m = m; s = length step.factors; t = block_factors x.blocks m n })
    shape_valid = record {
      shaped = record {
        order = order_of x.q level;
        some_indexes = runs.0;
        runs = runs.1;
        some_factors = some_factors;
        factors = few_factors_in;
        factors_of_many_levels = λ many. omega (arith, counted_in, most_of_many x.q (has_blocks x.blocks) many);
        block_factors = few_factors x.q _ (no_more_than_9 x.q level).0 few_blocks;
        factors_in_blocks = few_in_blocks x.q x.blocks _ m n counted_in;
      };
      factors = refl;
      few_blocks = few_blocks;
    }

    -- what it asks may be asked
    pub requirement_valid : CanBeAsked
        (record { q = x.q; m = m; s = length step.factors; t = block_factors x.blocks m n })
        (requirement_for step n)
    requirement_valid =
        go _
        (λ seeks. resolutions step n x.size (fixed seeks) (unblocked seeks) few_factors_in low high seeks)
      where
        go : (seeks : Bool) → (seeks ≡ true → (3 ≤ n) × (n ≤ 99))
            → CanBeAsked (record { q = x.q; m = m; s = length step.factors; t = block_factors x.blocks m n })
            (if seeks then AtResolution n else step.requirement)
        go true bounds = bounds refl
        go false bounds =
            can_be_asked x.q m (length step.factors) (block_factors x.blocks m n) x.criterion step.requirement
            criterion_fits valid.kind valid.effects

    pub least_valid : IsTrue x.least
        → IsTrue (is_resolution (requirement_for step n)) × (block_factors x.blocks m n ≡ 0)
    least_valid h =
        let with =
        rw h at together in (
          rw (seeks_with_least x h)
              (resolution_required x.criterion step.requirement valid.kind
              (no_effects x.size x.blocks x.criterion with)),
          without_blocks x.size x.blocks x.criterion with m n,
        )

  -- there is such a number
  sizes_fit : (given : Blocks) → are_blocks x.q Minimum given ≡ true → least_exponent given ≤ greatest x.q
  sizes_fit blocks.Without are = some_size x.q (bounds.level x valid.settings)
  sizes_fit (blocks.Factors t) are = some_size x.q (bounds.level x valid.settings)
  sizes_fit (blocks.PerBlock k) are = let fits =
      ltb-true k (greatest x.q) (and_parts (is_minimum Minimum) _ are).1 in omega arith
  sizes_fit blocks.Most are = some_size x.q (bounds.level x valid.settings)

  at_least_one : (size : Size) → x.size ≡ size → lowest step size ≤ highest step size
  at_least_one Minimum is =
      sizes_fit x.blocks (rw is at (bounds.given x valid.settings))
  at_least_one (Runs m) is =
      ordered _ _
      (leb-true 1 m (and_parts _ _ (rw is at (bounds.size x valid.settings))).0)
    where
      ordered : (most seeks : Bool) → 1 ≤ m
          → (if most then 1 else 3) ≤ (if most then m else (if seeks then max 3 (length step.factors + 1) else 3))
      ordered true seeks some = some
      ordered false true some = omega arith
      ordered false false some = omega arith

  pub some_numbers : (n : ℕ) → n ≡ lowest step x.size → n ≤ highest step x.size
  some_numbers n is = rw is (at_least_one x.size refl)

  -- and there are few
  few_of : (size : Size) → x.size ≡ size → highest step size < 255
  few_of Minimum is =
      let few =
      leb-true (greatest x.q) 10
      (at_level levels (λ q. nat_le (greatest q) 10) x.q refl (bounds.level x valid.settings)) in omega arith
  few_of (Runs m) is =
      bounded _ _
      (few_factors x.q m (no_more_than_9 x.q (bounds.level x valid.settings)).0
      (leb-true _ _ (and_parts _ _ (rw is at (bounds.size x valid.settings))).1))
    where
      bounded : (most seeks : Bool) → m ≤ 10
          → (if most then m else (if seeks then max 3 (length step.factors + 1) else 3)) < 255
      bounded true seeks few = omega arith
      bounded false true few = omega (arith, few_factors_in)
      bounded false false few = omega arith

  pub few_numbers : highest step x.size < 255
  few_numbers = few_of x.size refl

-- a step that is kept is valid
pub kept_valid : (step : Step) → IsValidStep (meaning_of step)
kept_valid step = record {
  settings = step.settings_valid;
  kind = step.kind;
  factors = step.factor_count;
  effects = step.effects_askable;
}
