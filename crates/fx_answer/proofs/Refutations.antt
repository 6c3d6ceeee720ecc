-- What the claims on the outcome of a step give, and which outcomes they exclude: a claim that is weakened does
-- neither.
use Rattle.std.proofs.Common.{ℕ, ◌≡◌, ◌<◌, true, false, List, [], ◌∷◌, refl, arith}
use Rattle.std.specs.Prelude.{codes, replicate}
use Rattle.std.proofs.lemmas.Bool.{both_ways}
use Rattle.std.proofs.lemmas.List.Elements.{All-from_recursion}
use Rattle.fx_designs.specs.Galois.{prime_of, degree_of, reduction_of, add, mul, neg, inv}
use Rattle.fx_designs.specs.Vectors.{IsVector}
use Rattle.fx_designs.specs.Runs.{runs_of, is_constant, is_balanced, are_blocks_even, is_balanced_in_blocks}
use Rattle.fx_designs.specs.Problems.{Dimensions, AtResolution}
use Rattle.fx_designs.specs.Demands.{must_balance, is_estimated}
use Rattle.fx_designs.specs.Matrices.{IsRuleMatrix, NoneMeets}
use Rattle.fx_designs.specs.Outcomes.{Design, NoDesign}
use Rattle.fx_reduction.specs.Resolutions.{HasLeastPattern, HighestOfAll}
use Rattle.fx_settings.specs.declared.settings.Size.{Size}
use Rattle.fx_settings.specs.declared.settings.Size.TheVariants.{Runs, Minimum}
use Rattle.fx_settings.specs.declared.settings.Criterion.{Criterion}
use Rattle.fx_settings.specs.declared.settings.Criterion.TheVariants.{Highest, Resolution}
use Rattle.fx_settings.specs.declared.settings.Blocks.{Blocks}
use Rattle.fx_settings.specs.declared.settings.Blocks.TheVariants as blocks
use Rattle.fx_settings.specs.Valid.{has_blocks}
use Rattle.fx_statements.specs.Questions.{Conclusion}
use Rattle.fx_statements.specs.declared.fold.Fold.TheVariants.{Without}
use Rattle.fx_statements.specs.Steps.{Meaning}
use Rattle.fx_answer.specs.StepClaims.{Allows, HasHighestOfAll, HasLeastOfAll, HasLeastSize, HasMostBlocks}
use Rattle.fx_answer.specs.StepClaims.{HasNoneAtAll}
use Rattle.fx_answer.specs.StepClaims.{MeetsWhatItReached}

-- a step of three factors of two levels
abbrev step_of : Size → Blocks → Criterion → Meaning
step_of size given kind = record {
  factors = replicate 3 (codes "A");
  settings = record {
    q = 2;
    budget = 1000000;
    size = size;
    criterion = kind;
    least = false;
    blocks = given;
  };
  requirement = AtResolution 3;
  examine = record { aliasing = false; blocked = false; design = false; aberration = false };
  fold = Without;
  outputs = [];
}

abbrev in_blocks : ℕ → ℕ → Dimensions
in_blocks m t = record { q = 2; m = m; s = 3; t = t }

-- the outcome with this matrix
abbrev with_rows : Dimensions → List ℕ → ℕ → Conclusion
with_rows d rows reached = record { dimensions = d; ending = Design rows 1; reached = reached }

row : (a b c : ℕ) → a < 2 → b < 2 → c < 2 → IsVector 2 3 (a ∷ b ∷ c ∷ [])
row a b c ha hb hc = record { len = refl; codes = (ha, (hb, (hc, tt))) }

pair : (a b : ℕ) → a < 2 → b < 2 → IsVector 2 2 (a ∷ b ∷ [])
pair a b ha hb = record { len = refl; codes = (ha, (hb, tt)) }

abbrev units : List (List ℕ)
units = (1 ∷ 0 ∷ 0 ∷ []) ∷ (0 ∷ 1 ∷ 0 ∷ []) ∷ (0 ∷ 0 ∷ 1 ∷ []) ∷ []

abbrev four_blocks : List (List ℕ)
four_blocks = (1 ∷ 1 ∷ 0 ∷ []) ∷ (1 ∷ 0 ∷ 1 ∷ []) ∷ []

-- eight runs in four blocks
in_four_blocks : IsRuleMatrix (in_blocks 3 2) units four_blocks
in_four_blocks = record {
  factor_count = refl;
  block_count = refl;
  factor_rows = All-from_recursion (IsVector 2 3) units (
    row 1 0 0 (omega arith) (omega arith) (omega arith),
    (
      row 0 1 0 (omega arith) (omega arith) (omega arith),
      (row 0 0 1 (omega arith) (omega arith) (omega arith), tt),
    ),
  );
  block_rows = All-from_recursion (IsVector 2 3) four_blocks (
    row 1 1 0 (omega arith) (omega arith) (omega arith),
    (row 1 0 1 (omega arith) (omega arith) (omega arith), tt),
  );
}

abbrev half : List (List ℕ)
half = (1 ∷ 0 ∷ []) ∷ (0 ∷ 1 ∷ []) ∷ (1 ∷ 1 ∷ []) ∷ []

-- four runs
in_four_runs : IsRuleMatrix (in_blocks 2 0) half []
in_four_runs = record {
  factor_count = refl;
  block_count = refl;
  factor_rows = All-from_recursion (IsVector 2 2) half (
    pair 1 0 (omega arith) (omega arith),
    (pair 0 1 (omega arith) (omega arith), (pair 1 1 (omega arith) (omega arith), tt)),
  );
  block_rows = All-from_recursion _ [] tt;
}

allowed_blocks : Allows (step_of (Runs 3) blocks.Most (Resolution 3)) (in_blocks 3 2)
allowed_blocks = record {
  levels = refl;
  factors = refl;
  runs = refl;
  sizes = λ e. cc e;
  blocks = refl;
  some_blocks = λ e. omega arith;
}

allowed_runs : Allows (step_of Minimum blocks.Without (Resolution 3)) (in_blocks 2 0)
allowed_runs = record {
  levels = refl;
  factors = refl;
  runs = refl;
  sizes = λ e. (omega arith, omega arith);
  blocks = refl;
  some_blocks = λ e. cc e;
}

-- two blocks are not the most where four are possible
one_more_block_factor :
    HasMostBlocks (step_of (Runs 3) blocks.Most (Resolution 3)) (with_rows (in_blocks 3 1) (1 ∷ 2 ∷ 4 ∷ 7 ∷ []) 0) → ⊥
unfolding prime_of degree_of reduction_of add mul neg inv runs_of is_constant is_balanced are_blocks_even
    is_balanced_in_blocks must_balance is_estimated
one_more_block_factor most =
    both_ways true
    (most (1 ∷ 2 ∷ 4 ∷ 7 ∷ []) 1 (in_blocks 3 2) refl refl allowed_blocks (omega arith) units four_blocks
    in_four_blocks) refl

-- eight runs are not the least where four suffice
next_smaller_size :
    HasLeastSize (step_of Minimum blocks.Without (Resolution 3)) (with_rows (in_blocks 3 0) (1 ∷ 2 ∷ 4 ∷ []) 0) → ⊥
unfolding prime_of degree_of reduction_of add mul neg inv runs_of is_constant is_balanced are_blocks_even
    is_balanced_in_blocks must_balance is_estimated
next_smaller_size least =
    both_ways true
    (least (1 ∷ 2 ∷ 4 ∷ []) 1 (in_blocks 2 0) refl allowed_runs (omega arith) half [] in_four_runs) refl

-- no resolution below 3 is reached
resolution_two :
    MeetsWhatItReached (step_of (Runs 3) blocks.Most Highest) (with_rows (in_blocks 3 1) (1 ∷ 2 ∷ 4 ∷ 7 ∷ []) 2) → ⊥
resolution_two meets = omega (arith, (meets (1 ∷ 2 ∷ 4 ∷ 7 ∷ []) refl refl refl).0)

-- what each claim gives, whatever the step
module _ (step : Meaning) (outcome : Conclusion) where
  none : HasNoneAtAll step outcome → (count : ℕ) (d : Dimensions) → outcome.ending ≡ NoDesign count → Allows step d
      → NoneMeets d step.requirement
  none claim = claim

  least_pattern : HasLeastOfAll step outcome → (rows : List ℕ) (count : ℕ) → step.settings.least ≡ true
      → outcome.ending ≡ Design rows count
      → HasLeastPattern outcome.dimensions step.requirement rows
  least_pattern claim = claim

  highest : HasHighestOfAll step outcome → (rows : List ℕ) (count : ℕ) → step.settings.criterion ≡ Highest
      → has_blocks step.settings.blocks ≡ false
      → outcome.ending ≡ Design rows count
      → HighestOfAll outcome.dimensions rows
  highest claim = claim

  smaller : HasLeastSize step outcome → (rows : List ℕ) (count : ℕ) (d : Dimensions)
      → outcome.ending ≡ Design rows count
      → Allows step d
      → d.m < outcome.dimensions.m
      → NoneMeets d step.requirement
  smaller claim = claim

  more_blocks : HasMostBlocks step outcome → (rows : List ℕ) (count : ℕ) (d : Dimensions)
      → step.settings.blocks ≡ blocks.Most
      → outcome.ending ≡ Design rows count
      → Allows step d
      → outcome.dimensions.t < d.t
      → NoneMeets d step.requirement
  more_blocks claim = claim
