-- Which dimensions a step allows.
use Rattle.std.proofs.Common.{ℕ, false, [], refl, arith}
use Rattle.std.specs.Prelude.{codes, replicate}
use Rattle.fx_designs.specs.Problems.{Dimensions, AtResolution}
use Rattle.fx_settings.specs.declared.settings.Size.{Size}
use Rattle.fx_settings.specs.declared.settings.Size.TheVariants.{Runs, Minimum}
use Rattle.fx_settings.specs.declared.settings.Criterion.TheVariants as criterion
use Rattle.fx_settings.specs.declared.settings.Blocks.{Blocks}
use Rattle.fx_settings.specs.declared.settings.Blocks.TheVariants as blocks
use Rattle.fx_statements.specs.declared.fold.Fold.TheVariants.{Without}
use Rattle.fx_statements.specs.Steps.{Meaning}
use Rattle.fx_answer.specs.StepClaims.{Allows}

-- a step of three factors of two levels
abbrev step_of : Size → Blocks → Meaning
step_of size given = record {
  factors = replicate 3 (codes "A");
  settings = record {
    q = 2;
    budget = 1000000;
    size = size;
    criterion = criterion.Resolution 3;
    least = false;
    blocks = given;
  };
  requirement = AtResolution 3;
  examine = record { aliasing = false; blocked = false; design = false; aberration = false };
  fold = Without;
  outputs = [];
}

abbrev in_blocks : ℕ → ℕ → Dimensions
in_blocks m t = record { q = 2; m = m; s = 3; t = t }

-- the least size is any from 2 runs to 1,024
smallest : Allows (step_of Minimum blocks.Without) (in_blocks 1 0)
smallest = record {
  levels = refl;
  factors = refl;
  runs = refl;
  sizes = λ e. (omega arith, omega arith);
  blocks = refl;
  some_blocks = λ e. absurd (cc e);
}

greatest_size : Allows (step_of Minimum blocks.Without) (in_blocks 10 0)
greatest_size = record {
  levels = refl;
  factors = refl;
  runs = refl;
  sizes = λ e. (omega arith, omega arith);
  blocks = refl;
  some_blocks = λ e. absurd (cc e);
}

none_smaller : Allows (step_of Minimum blocks.Without) (in_blocks 0 0) → ⊥
none_smaller h = omega (arith, (h.sizes refl).0)

none_greater : Allows (step_of Minimum blocks.Without) (in_blocks 11 0) → ⊥
none_greater h = omega (arith, (h.sizes refl).1)

-- in blocks of two runs the least size has two blocks, and as many more block factors as run indexes
two_blocks : Allows (step_of Minimum (blocks.PerBlock 1)) (in_blocks 2 1)
two_blocks = record {
  levels = refl;
  factors = refl;
  runs = refl;
  sizes = λ e. (omega arith, omega arith);
  blocks = refl;
  some_blocks = λ e. absurd (cc e);
}

one_block : Allows (step_of Minimum (blocks.PerBlock 1)) (in_blocks 1 0) → ⊥
one_block h = omega (arith, (h.sizes refl).0)

-- the most blocks are any number of block factors from 1, also above that of the run indexes
many_blocks : Allows (step_of (Runs 3) blocks.Most) (in_blocks 3 5)
many_blocks = record {
  levels = refl;
  factors = refl;
  runs = refl;
  sizes = λ e. absurd (cc e);
  blocks = refl;
  some_blocks = λ e. omega arith;
}

no_blocks : Allows (step_of (Runs 3) blocks.Most) (in_blocks 3 0) → ⊥
no_blocks h = omega (arith, h.some_blocks refl)

other_runs : Allows (step_of (Runs 3) blocks.Most) (in_blocks 4 1) → ⊥
other_runs h = omega (arith, h.runs)
