-- Which settings a step may have.
use Rattle.std.specs.Prelude.{ℕ, ◌^◌, nat_le, nat_lt, not, ◌&&◌, ◌||◌, Bool, true, false}
use Rattle.fx_settings.specs.declared.power.TheConstants.{MOST_RUNS}
use Rattle.fx_settings.specs.declared.settings.StepSettings.{StepSettings}
use Rattle.fx_settings.specs.declared.settings.Size.{Size}
use Rattle.fx_settings.specs.declared.settings.Size.TheVariants.{Runs, Minimum}
use Rattle.fx_settings.specs.declared.settings.Criterion.{Criterion}
use Rattle.fx_settings.specs.declared.settings.Blocks.{Blocks}
use Rattle.fx_settings.specs.declared.settings.Blocks.TheVariants as blocks
use Rattle.fx_settings.specs.Powers.{greatest}
use Rattle.fx_settings.specs.Models.{is_criterion, is_effects, is_highest}
use Rattle.fx_settings.specs.Sizes.{is_minimum}
use Rattle.fx_settings.specs.Blocks.{is_too_many}
use Rattle.fx_settings.specs.Settings.{is_budget, is_level}

-- at least one run factor, and at most 1,024 runs
abbrev pub is_size : ℕ → Size → Bool
is_size q (Runs m) = nat_le 1 m && nat_le (q ^ m) MOST_RUNS
is_size q Minimum = true

-- at least one block factor, and no more blocks than runs; blocks of so many runs are allowed only with the least size
abbrev pub are_blocks : ℕ → Size → Blocks → Bool
are_blocks q size blocks.Without = true
are_blocks q size (blocks.Factors t) = nat_le 1 t && not (is_too_many q size t)
are_blocks q size (blocks.PerBlock k) = is_minimum size && nat_lt k (greatest q)
are_blocks q size blocks.Most = true

-- the runs are divided into blocks
abbrev pub has_blocks : Blocks → Bool
has_blocks blocks.Without = false
has_blocks (blocks.Factors t) = true
has_blocks (blocks.PerBlock k) = true
has_blocks blocks.Most = true

-- as many blocks as can be are asked
abbrev pub has_most : Blocks → Bool
has_most blocks.Without = false
has_most (blocks.Factors t) = false
has_most (blocks.PerBlock k) = false
has_most blocks.Most = true

-- What goes together: least aberration not with effects; blocks not with least aberration, and the most blocks not with
-- the highest resolution; and the least size with neither of these and not with the most blocks.
abbrev pub stand_together : Size → Criterion → Bool → Blocks → Bool
stand_together size criterion least given =
    not (least && is_effects criterion)
    && not (has_blocks given && (least || (is_highest criterion && has_most given)))
    && not (is_minimum size && (is_highest criterion || least || has_most given))

-- the settings keep every rule that speaks of them alone
abbrev pub are_valid : StepSettings → Bool
are_valid x =
    is_level x.q && is_budget x.budget && is_size x.q x.size && is_criterion x.criterion
    && are_blocks x.q x.size x.blocks && stand_together x.size x.criterion x.least x.blocks
