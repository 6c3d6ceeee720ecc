-- The settings of a step: orders of fields, what goes together, and dimensions.
use Rattle.std.proofs.Common.{ℕ, ◌≡◌, ◌≤◌, ◌&&◌, ◌||◌, Bool, true, false, refl, ap, ◌∙◌, arith, inl, inr}
use Rattle.std.proofs.Common.{◌⊎◌}
use Rattle.std.specs.Prelude.{not}
use Rattle.std.proofs.lemmas.Bool.{leb-true, ltb-true, and_parts}
use Rattle.fx_designs.specs.Problems.{Dimensions, Requirement, AtResolution, ForEffects}
use Rattle.fx_reduction.specs.Reduction.{IsReducible}
use Rattle.fx_settings.specs.declared.settings.Size.{Size}
use Rattle.fx_settings.specs.declared.settings.Size.TheVariants.{Runs, Minimum}
use Rattle.fx_settings.specs.declared.settings.Blocks.{Blocks}
use Rattle.fx_settings.specs.declared.settings.Blocks.TheVariants as blocks
use Rattle.fx_settings.specs.declared.settings.Criterion.{Criterion}
use Rattle.fx_settings.specs.declared.settings.Criterion.TheVariants as criterion
use Rattle.fx_settings.specs.Models.{is_criterion, is_highest}
use Rattle.fx_settings.specs.Powers.{greatest}
use Rattle.fx_settings.specs.Settings.{is_level}
use Rattle.fx_settings.specs.Valid.{are_blocks, has_blocks, has_most}
use Rattle.fx_statements.specs.Requirements.{IsOfKind}
use Rattle.fx_statements.specs.Questions.{block_factors, least_exponent, run_factors}
use Rattle.fx_answer.proofs.Valid.{some_size}

-- What goes together

-- the most blocks are asked or not
pub most_or : (b : Blocks) → (b ≡ blocks.Most) ⊎ (has_most b ≡ false)
most_or blocks.Without = inr refl
most_or (blocks.Factors t) = inr refl
most_or (blocks.PerBlock k) = inr refl
most_or blocks.Most = inl refl

pub not_both : (a b : Bool) → not (a && b) ≡ true → a ≡ true → b ≡ false
not_both true true e h = cc e
not_both true false e h = refl
not_both false b e h = cc h

-- with the highest resolution the most blocks are not asked
pub not_most : (b : Blocks) (highest least : Bool)
    → not (has_blocks b && (least || (highest && has_most b))) ≡ true
    → highest ≡ true → has_most b ≡ false
not_most blocks.Without highest least e h = refl
not_most (blocks.Factors t) highest least e h = refl
not_most (blocks.PerBlock k) highest least e h = refl
not_most blocks.Most true true e h = cc e
not_most blocks.Most true false e h = cc e
not_most blocks.Most false least e h = cc h

-- the block factors do not hang on the number of the question, but for the most blocks
pub same_blocks : (b : Blocks) (m n k : ℕ) → has_most b ≡ false → block_factors b m n ≡ block_factors b m k
same_blocks blocks.Without m n k e = refl
same_blocks (blocks.Factors t) m n k e = refl
same_blocks (blocks.PerBlock p) m n k e = refl
same_blocks blocks.Most m n k e = cc e

pub runs_again : (size : Size) (n : ℕ) → run_factors size n ≡ run_factors size (run_factors size n)
runs_again (Runs m) n = refl
runs_again Minimum n = refl

pub blocks_again : (b : Blocks) (m n : ℕ) → block_factors b m n ≡ block_factors b m (block_factors b m n)
blocks_again blocks.Without m n = refl
blocks_again (blocks.Factors t) m n = refl
blocks_again (blocks.PerBlock k) m n = refl
blocks_again blocks.Most m n = refl

-- the highest resolution is wanted or not
pub highest_or : (kind : Criterion) → (kind ≡ criterion.Highest) ⊎ (is_highest kind ≡ false)
highest_or (criterion.Resolution r) = inr refl
highest_or criterion.Highest = inl refl
highest_or criterion.Effects = inr refl

pub reducible_by : (kind : Criterion) (requirement : Requirement) → IsOfKind kind requirement
    → is_criterion kind ≡ true → IsReducible requirement
reducible_by (criterion.Resolution r) (AtResolution n) h e =
    let three = leb-true 3 r (and_parts _ _ e).0 in
    let same : n ≡ r = cc in omega arith
reducible_by criterion.Highest (AtResolution n) h e = let same : n ≡ 3 = cc in omega arith
reducible_by criterion.Effects (AtResolution n) h e = cc h
reducible_by kind (ForEffects estimate besides) h e = tt

pub exponent_fits : (q : ℕ) (size : Size) (b : Blocks) → is_level q ≡ true → are_blocks q size b ≡ true
    → least_exponent b ≤ greatest q
exponent_fits q size blocks.Without level e = some_size q level
exponent_fits q size (blocks.Factors t) level e = some_size q level
exponent_fits q size (blocks.PerBlock k) level e =
    (let low = ltb-true k (greatest q) (and_parts _ _ e).1 in omega arith)
exponent_fits q size blocks.Most level e = some_size q level

pub size_or : (size : Size) → (size ≡ Minimum) ⊎ ((m : ℕ) × (size ≡ Runs m))
size_or Minimum = inl refl
size_or (Runs m) = inr (m, refl)

pub unblocked : (b : Blocks) → has_blocks b ≡ false → b ≡ blocks.Without
unblocked blocks.Without e = refl
unblocked (blocks.Factors t) e = cc e
unblocked (blocks.PerBlock k) e = cc e
unblocked blocks.Most e = cc e

abbrev pub sized : ℕ → ℕ → ℕ → ℕ → Dimensions
sized q m s t = record { q = q; m = m; s = s; t = t }

pub same_dimensions : (a b : Dimensions) → a.q ≡ b.q → a.m ≡ b.m → a.s ≡ b.s → a.t ≡ b.t → a ≡ b
same_dimensions a b eq em es et =
    ap (λ q. sized q a.m a.s a.t) eq ∙ ap (λ m. sized b.q m a.s a.t) em ∙ ap (λ s. sized b.q b.m s a.t) es ∙ ap
    (sized b.q b.m b.s) et
