-- Settings that no rule refuses are valid.
use Rattle.std.proofs.Common.{◌≡◌, ℕ, zero, suc, ◌≤◌, true, false, not, ◌&&◌, ◌||◌, Option, Some, None}
use Rattle.std.proofs.Common.{Ok, refl, ap, subst, ◌∙◌, arith}
use Rattle.std.specs.Prelude.{◌==◌, is_some, option_map}
use Rattle.std.specs.List.{AllByRecursion}
use Rattle.std.proofs.lemmas.Bool.{le-leb, lt-ltb, ltb-false, and_from, not-false}
use Rattle.fx_settings.specs.declared.said.BlocksSaid.{BlocksSaid}
use Rattle.fx_settings.specs.declared.said.BlocksWord.{BlocksWord}
use Rattle.fx_settings.specs.declared.said.BlocksWord.TheVariants as word
use Rattle.fx_settings.specs.declared.said.StepSaid.{StepSaid}
use Rattle.fx_settings.specs.declared.settings.StepSettings.{StepSettings}
use Rattle.fx_settings.specs.declared.settings.Size.{Size}
use Rattle.fx_settings.specs.declared.settings.Size.TheVariants.{Runs, Minimum}
use Rattle.fx_settings.specs.declared.settings.Blocks.{Blocks}
use Rattle.fx_settings.specs.declared.settings.Blocks.TheVariants as blocks
use Rattle.fx_settings.specs.Rules.{DoesNotApply}
use Rattle.fx_settings.specs.Sizes.{run_factors_of, is_given_zero, are_too_many_runs, size_of, is_minimum}
use Rattle.fx_settings.specs.Models.{criterion_of, least_of, is_highest}
use Rattle.fx_settings.specs.Blocks.{are_most, most_run_factors, block_factors_by_word, block_factors_of, is_too_many}
use Rattle.fx_settings.specs.Blocks.{are_too_many_blocks, blocks_by, blocks_of}
use Rattle.fx_settings.specs.Settings.{levels_of, rules, undivided, unblocked_of, block_rules, divided}
use Rattle.fx_settings.specs.Settings.{step_settings_of}
use Rattle.fx_settings.specs.Valid.{is_size, are_blocks, has_blocks, has_most, are_valid}
use Rattle.fx_settings.proofs.Rules.{accepted}

positive : (n : ℕ) → (n == 0) ≡ false → 1 ≤ n
positive zero e = cc e
positive (suc n) e = omega arith

size_fits : (q : ℕ) (m : Option ℕ) → is_given_zero m ≡ false → are_too_many_runs q m ≡ false
    → is_size q (size_of m) ≡ true
size_fits q None some few = refl
size_fits q (Some m) some few =
    and_from _ _ (le-leb 1 m (positive m some))
    (le-leb _ 1024 (ltb-false 1024 _ few))

factors_fit : (q : ℕ) (size : Size) (t : ℕ) → 1 ≤ t → is_too_many q size t ≡ false
    → are_blocks q size (blocks.Factors t) ≡ true
factors_fit q size t one few = and_from _ _ (le-leb 1 t one) (ap not few)

by_word : (q : ℕ) (size : Size) (w : BlocksWord) (n : ℕ) → let t =
    block_factors_by_word q (most_run_factors q size) w n in
    1 ≤ t → is_too_many q size t ≡ false → are_blocks q size (blocks_by q size w t) ≡ true
by_word q (Runs m) w n one few = factors_fit q (Runs m) (block_factors_by_word q m w n) one few
by_word q Minimum word.Nblkfacs n one few = factors_fit q Minimum n one few
by_word q Minimum word.Nblocks n one few = factors_fit q Minimum _ one few
by_word q Minimum word.Size n one few =
    lt-ltb _ _ (omega arith)

blocks_fit : (q : ℕ) (size : Size) (said : Option BlocksSaid) → let t = block_factors_of q size said in
    is_given_zero t ≡ false → are_too_many_blocks q size t ≡ false → are_blocks q size (blocks_of q size said t) ≡ true
blocks_fit q size None some few = refl
blocks_fit q size (Some said) some few = by_number said.value.number some few
  where
    by_number : (n : Option ℕ) → let t = option_map (block_factors_by_word q (most_run_factors q size) said.word) n in
        is_given_zero t ≡ false → are_too_many_blocks q size t ≡ false
        → are_blocks q size (blocks_of q size (Some said) t) ≡ true
    by_number None some few = refl
    by_number (Some n) some few = by_word q size said.word n (positive _ some) few

some_blocks : (q : ℕ) (size : Size) (w : BlocksWord) (t : ℕ)
    → (has_blocks (blocks_by q size w t) ≡ true) × (has_most (blocks_by q size w t) ≡ false)
some_blocks q (Runs m) w t = (refl, refl)
some_blocks q Minimum word.Nblkfacs t = (refl, refl)
some_blocks q Minimum word.Nblocks t = (refl, refl)
some_blocks q Minimum word.Size t = (refl, refl)

-- there are blocks where BLOCKS says so, and as many as can be where it says that
as_said : (q : ℕ) (size : Size) (said : Option BlocksSaid) → let t = block_factors_of q size said in
    let given = blocks_of q size said t in (has_blocks given ≡ is_some said) × (has_most given ≡ are_most said)
as_said q size None = (refl, refl)
as_said q size (Some said) = by_number said.value.number
  where
    by_number : (n : Option ℕ) → let t = option_map (block_factors_by_word q (most_run_factors q size) said.word) n in
        let given = blocks_of q size (Some said) t in (has_blocks given ≡ true) × (has_most given ≡ not (is_some n))
    by_number None = (refl, refl)
    by_number (Some n) = some_blocks q size said.word _

-- the rules on blocks are kept
abbrev AreBlocksKept : StepSettings → StepSaid → Type 0
AreBlocksKept x said = AllByRecursion DoesNotApply (block_rules x.q x.size said)

-- what keeps all rules is valid
all_kept : (s : ℕ) (said : StepSaid) → AllByRecursion DoesNotApply (rules s said)
    → AreBlocksKept (undivided s said) said
    → are_valid (divided (undivided s said) said) ≡ true
all_kept s said
    (level, (budget, (some, (few, (criterion, (effects, (maximum, (minimum, none))))))))
    (several, (few_blocks, nothing)) =
    let q = levels_of said in
    let size = size_of (run_factors_of q s said.size) in
    let least = least_of said.model in
    let highest = is_highest (criterion_of said.model) in
    let same = as_said q size said.blocks in
    let apart =
    ap (λ b. not
    (b && (least || (highest && has_most (blocks_of q size said.blocks (block_factors_of q size said.blocks))))))
    same.0
    ∙ ap (λ b. not (is_some said.blocks && (least || (highest && b)))) same.1 ∙ ap not maximum in
    let small = ap (λ b. not (is_minimum size && (highest || least || b))) same.1 ∙ ap not minimum in
    and_from _ _
    (and_from _ _
    (and_from _ _ (and_from _ _ (and_from _ _ (not-false _ level) (not-false _ budget)) (size_fits q _ some few))
    (not-false _ criterion)) (blocks_fit q size said.blocks several few_blocks))
    (and_from _ _ (and_from _ _ (ap not effects) apart) small)

-- settings that were not refused before the effects, with the blocks that keep the rules
pub with_blocks : (s : ℕ) (said : StepSaid) (x : StepSettings) (given : Blocks) → unblocked_of s said ≡ Ok x
    → AreBlocksKept x said → given ≡ blocks_of x.q x.size said.blocks (block_factors_of x.q x.size said.blocks)
    → are_valid (record x { blocks = given }) ≡ true
with_blocks s said x given before kept same =
    let first = accepted (rules s said) (undivided s said) x before in
    let all = subst (λ y. AreBlocksKept y said → are_valid (divided y said) ≡ true) first.1 (all_kept s said first.0) in
    rw same (all kept)

pub valid : (s : ℕ) (said : StepSaid) (x settings : StepSettings) → unblocked_of s said ≡ Ok x
    → step_settings_of x said ≡ Ok settings → are_valid settings ≡ true
valid s said x settings before after =
    let last = accepted (block_rules x.q x.size said) (divided x said) settings after in
    rw (← last.1) (with_blocks s said x _ before last.0 refl)
