-- What the settings of a step leave of its numbers.
use Rattle.std.proofs.Common.{◌≡◌, ℕ, ◌^◌, ◌<◌, ◌≤◌, Bool, true, false, not, ◌&&◌, ◌||◌, List, [], ◌∷◌, Option, Some}
use Rattle.std.proofs.Common.{None}
use Rattle.std.proofs.Common.{Ok, refl, sym, ap, subst, ◌∙◌, inl, inr, arith}
use Rattle.std.specs.Prelude.{nat_le, nat_lt, ◌==◌, is_some, if◌then◌else◌}
use Rattle.std.specs.List.{list_all, list_any}
use Rattle.std.proofs.lemmas.Bool.{leb-true, le-leb, ltb-false, eqb-true, not-true, and_from, and_parts, cases_Bool}
use Rattle.std.proofs.Math.Nat.{pow-le-pow_right}
use Rattle.std.proofs.lemmas.Bool.{ne_eqb}
use Rattle.fx_settings.specs.declared.settings.StepSettings.{StepSettings}
use Rattle.fx_settings.specs.declared.settings.Size.{Size}
use Rattle.fx_settings.specs.declared.settings.Size.TheVariants.{Runs, Minimum}
use Rattle.fx_settings.specs.declared.settings.Blocks.{Blocks}
use Rattle.fx_settings.specs.declared.settings.Blocks.TheVariants.{Factors}
use Rattle.fx_settings.specs.Blocks.{block_factors_of, blocks_of}
use Rattle.fx_settings.specs.Settings.{block_rules, is_level, step_settings_of, levels_of, rules}
use Rattle.fx_settings.specs.Settings.{unblocked_of}
use Rattle.fx_settings.specs.Valid.{are_valid, is_size, are_blocks, has_blocks}
use Rattle.fx_settings.specs.declared.said.StepSaid.{StepSaid}
use Rattle.fx_settings.specs.Said.{step_said}
use Rattle.fx_text.specs.Written.{Written}
use Rattle.fx_text.specs.Statements.{statement_of}
use Rattle.fx_settings.proofs.Rules.{accepted}
use Rattle.fx_language.specs.declared.symbol.Symbol.TheVariants as word
use Rattle.fx_statements.specs.Valid.{is_count, most_factors_of}
use Rattle.fx_vectors.specs.declared.shape.TheConstants.{MOST_FACTORS, MOST_FACTORS_IN_BLOCKS}
use Rattle.fx_vectors.specs.declared.shape.TheConstants.{MOST_FACTORS_OF_MANY_LEVELS}

-- a number among some, each of which is from 2 to 9
among : (levels : List ℕ) (q : ℕ) → list_all (λ x. nat_le 2 x && nat_le x 9) levels ≡ true
    → list_any (λ x. x == q) levels ≡ true → (2 ≤ q) × (q ≤ 9)
among [] q all some = cc some
among (x ∷ levels) q all some =
    let both = and_parts _ _ all in
    let ends = and_parts _ _ both.0 in
    elim (cases_Bool (x == q)) [
      | inl same ↦ let e = eqb-true x q same in
          (omega (arith, leb-true 2 x ends.0), omega (arith, leb-true x 9 ends.1))
      | inr other ↦ among levels q both.1 (ap (λ b. b || list_any (λ x. x == q) levels) (sym other) ∙ some)
    ]

pub no_more_than_9 : (q : ℕ) → is_level q ≡ true → (2 ≤ q) × (q ≤ 9)
no_more_than_9 q h = among (2 ∷ 3 ∷ 4 ∷ 5 ∷ 7 ∷ 8 ∷ 9 ∷ []) q refl h

module _ (x : StepSettings) (valid : are_valid x ≡ true) where
  pub level : is_level x.q ≡ true
  level = (and_parts _ _ (and_parts _ _ (and_parts _ _ (and_parts _ _ (and_parts _ _ valid).0).0).0).0).0

  pub size : is_size x.q x.size ≡ true
  size = (and_parts _ _ (and_parts _ _ (and_parts _ _ (and_parts _ _ valid).0).0).0).1

  pub given : are_blocks x.q x.size x.blocks ≡ true
  given = (and_parts _ _ (and_parts _ _ valid).0).1

blocks_fit : (q : ℕ) (size : Size) (t : ℕ) → 2 ≤ q → is_size q size ≡ true → are_blocks q size (Factors t) ≡ true
    → q ^ t ≤ 1024
blocks_fit q (Runs m) t two fits given =
    let runs = leb-true (q ^ m) 1024 (and_parts _ _ fits).1 in
    let few = ltb-false m t (not-true (nat_lt m t) (and_parts (nat_le 1 t) (not (nat_lt m t)) given).1) in
    omega (arith, pow-le-pow_right {n = q} (omega arith) {i = t} {j = m} few)
blocks_fit q Minimum t two fits given =
    omega (
      arith,
      ltb-false 1024 (q ^ t)
          (not-true (nat_lt 1024 (q ^ t)) (and_parts (nat_le 1 t) (not (nat_lt 1024 (q ^ t))) given).1),
    )

pub few_blocks : (x : StepSettings) → are_valid x ≡ true → (t : ℕ) → x.blocks ≡ Factors t → x.q ^ t ≤ 1024
few_blocks x valid t is =
    blocks_fit x.q x.size t (no_more_than_9 x.q (level x valid)).0 (size x valid)
    (rw is at (given x valid))

-- without BLOCKS there are no blocks
pub without : (first : StepSettings) (said : StepSaid) (x : StepSettings) → said.blocks ≡ None
    → step_settings_of first said ≡ Ok x → has_blocks x.blocks ≡ false
without first said x none e =
    subst (λ y. has_blocks y.blocks ≡ false)
    (accepted (block_rules first.q first.size said) _ x e).1
    (ap (λ b. has_blocks (blocks_of first.q first.size b (block_factors_of first.q first.size b))) none)

pub unsaid : (proc named : List Written) (statements : List (List Written)) (said : StepSaid)
    → said ≡ step_said proc named statements → statement_of word.Blocks statements ≡ None → said.blocks ≡ None
unsaid proc named statements said is none = cc

many_levels : (q : ℕ) → 3 < q → ((q == 2) || (q == 3)) ≡ false
many_levels q many =
    rw (ne_eqb q 2 (λ e. absurd (omega arith)), ne_eqb q 3 (λ e. absurd (omega arith)))

-- the greatest of these limits, the one for many levels, and the least
pub most_of_all : (q : ℕ) (b : Bool) → most_factors_of q b ≤ MOST_FACTORS
most_of_all q true = omega arith
most_of_all q false =
    elim ((q == 2) || (q == 3)) as (λ c. (if c then MOST_FACTORS else MOST_FACTORS_OF_MANY_LEVELS) ≤ MOST_FACTORS) [
      | true ↦ omega arith
      | false ↦ omega arith
    ]

pub most_of_many : (q : ℕ) (b : Bool) → 3 < q → most_factors_of q b ≤ MOST_FACTORS_OF_MANY_LEVELS
most_of_many q true many = omega arith
most_of_many q false many = rw (many_levels q many) (omega arith)

fewest_in_blocks : (q : ℕ) → MOST_FACTORS_IN_BLOCKS ≤ most_factors_of q false
fewest_in_blocks q =
    elim ((q == 2) || (q == 3)) as
    (λ c. MOST_FACTORS_IN_BLOCKS ≤ (if c then MOST_FACTORS else MOST_FACTORS_OF_MANY_LEVELS)) [
      | true ↦ omega arith
      | false ↦ omega arith
    ]

no_more : (q : ℕ) (b : Bool) (found : Option (List Written)) (n : ℕ) → (found ≡ None → b ≡ false) → 1 ≤ n
    → n ≤ most_factors_of q (is_some found) → (nat_le 1 n && nat_le n (most_factors_of q b)) ≡ true
no_more q true None n h one few = absurd (cc (h refl))
no_more q true (Some s) n h one few = and_from _ _ (le-leb 1 n one) (le-leb n _ few)
no_more q false None n h one few = and_from _ _ (le-leb 1 n one) (le-leb n _ few)
no_more q false (Some s) n h one few =
    and_from _ _ (le-leb 1 n one) (le-leb n _ (omega (arith, fewest_in_blocks q)))

pub counted : (q : ℕ) (statements : List (List Written)) (s : ℕ) (given : Blocks)
    → (statement_of word.Blocks statements ≡ None → has_blocks given ≡ false)
    → 1 ≤ s → s ≤ most_factors_of q (is_some (statement_of word.Blocks statements)) → is_count q s given ≡ true
counted q statements s given without one few =
    no_more q _ _ s without one few

-- what is judged before the blocks has the levels that the step says
pub levels_said : (s : ℕ) (said : StepSaid) (x : StepSettings) → unblocked_of s said ≡ Ok x → x.q ≡ levels_of said
levels_said s said x e =
    subst (λ y. y.q ≡ levels_of said) (accepted (rules s said) _ x e).1 refl

-- what blocks leave of the other settings
pub kept : (first : StepSettings) (said : StepSaid) (x : StepSettings) → step_settings_of first said ≡ Ok x
    → (x.criterion ≡ first.criterion) × (x.q ≡ first.q)
kept first said x e =
    subst (λ y. (y.criterion ≡ first.criterion) × (y.q ≡ first.q))
    (accepted (block_rules first.q first.size said) _ x e).1 (refl, refl)
