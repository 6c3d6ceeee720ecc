-- Which steps there may be.
use Rattle.std.specs.Prelude.{ℕ, ◌≡◌, ◌≤◌, nat_le, ◌&&◌, ◌||◌, ◌==◌, min, Bool, true, length, if◌then◌else◌}
use Rattle.std.proofs.Props.{props}
use Rattle.fx_designs.specs.Components.{listed_count}
use Rattle.fx_designs.specs.Problems.{Requirement, AtResolution, ForEffects}
use Rattle.fx_demands.specs.declared.unions.TheConstants.{MOST_EFFECTS}
use Rattle.fx_settings.specs.declared.settings.Blocks.{Blocks}
use Rattle.fx_settings.specs.Valid.{has_blocks}
use Rattle.fx_vectors.specs.Question.{CanBeTold}
use Rattle.fx_vectors.specs.declared.shape.TheConstants.{MOST_FACTORS, MOST_FACTORS_IN_BLOCKS}
use Rattle.fx_vectors.specs.declared.shape.TheConstants.{MOST_FACTORS_OF_MANY_LEVELS}
use Rattle.fx_statements.specs.declared.components.TheConstants.{MOST_COMPONENTS}
use Rattle.fx_statements.specs.declared.examine.Examine.{Examine}
use Rattle.fx_statements.specs.Components.{listed_factors}

-- the most factors of q levels, in blocks or not
abbrev pub most_factors_of : ℕ → Bool → ℕ
most_factors_of q in_blocks =
    if in_blocks then MOST_FACTORS_IN_BLOCKS
    else (if (q == 2) || (q == 3) then MOST_FACTORS else MOST_FACTORS_OF_MANY_LEVELS)

-- at least one factor, and no more than there may be
abbrev pub is_count : ℕ → ℕ → Blocks → Bool
is_count q s blocks = nat_le 1 s && nat_le s (most_factors_of q (has_blocks blocks))

-- a requirement that a step with s factors of q levels may have: effects that may be asked for, at most 100,000 in each
-- list
abbrev pub CanBeRequired : ℕ → ℕ → Requirement → Type 0
CanBeRequired q s (AtResolution r) = Unit {0}
CanBeRequired q s (ForEffects estimate besides) =
    CanBeTold q s estimate besides × (length estimate ≤ MOST_EFFECTS) × (length besides ≤ MOST_EFFECTS)

pub CanBeRequired-prop : (q s : ℕ) (requirement : Requirement) → IsProp (CanBeRequired q s requirement)
CanBeRequired-prop q s (AtResolution r) = Prim.hlevel props
CanBeRequired-prop q s (ForEffects estimate besides) = Prim.hlevel props

-- where components are listed, they are at most 100,000
abbrev pub HasFewComponents : ℕ → ℕ → Requirement → Examine → Type 0
HasFewComponents q s requirement examine =
    (examine.aliasing || examine.blocked) ≡ true
    → listed_count q s (min s (listed_factors requirement)) ≤ MOST_COMPONENTS
