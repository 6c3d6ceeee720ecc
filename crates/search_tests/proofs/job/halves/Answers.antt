use Rattle.std.proofs.Common.{◌≡◌, ◌<◌, ◌^◌, ◌∙◌, ℕ, List, [], ◌∷◌, false, refl, ap, arith, lit<, lit≤}
use Rattle.std.specs.Int.Count.{ones}
use Rattle.std.proofs.lemmas.List.Elements.{All-from_recursion}
use Rattle.fx_designs.specs.Problems.{Problem, ForEffects}
use Rattle.fx_vectors.specs.Effects.{factors_of, numbers_of}
use Rattle.fx_vectors.specs.Question.{CanBeTold, IsValid}
use Rattle.fx_vectors.specs.declared.effect.Effect.{Effect}
use Rattle.fx_vectors.specs.declared.question.Demands.TheVariants.{Effects}
use Rattle.search_tests.proofs.job.halves.Goals as goal

askable : CanBeTold 2 4 (3 ∷ []) []
unfolding factors_of ones
askable =
    record {
      some = omega arith;
      estimated =
          record {
            each = All-from_recursion (λ e. (0 < e) × (e < 2 ^ 4)) (3 ∷ []) ((lit< tt, lit< tt), tt);
            in_order = refl;
          };
      others = record { each = All-from_recursion (λ e. (0 < e) × (e < 2 ^ 4)) [] tt; in_order = refl };
      apart = refl;
      pairs = lit≤ tt;
    }

valid : (estimate others : List Effect) → numbers_of estimate ≡ 3 ∷ [] → numbers_of others ≡ []
    → IsValid (record
    { shape = record { q = 2; m = 1; s = 4; t = 0 }; demands = Effects estimate others; least = false })
valid estimate others e o =
    record {
      shaped = record {
        order = refl;
        some_indexes = omega arith;
        runs = omega arith;
        some_factors = omega arith;
        factors = omega arith;
        factors_of_many_levels = λ many. absurd (omega (arith, many));
        block_factors = omega arith;
        factors_in_blocks = λ h. absurd (omega arith);
      };
      asked = rw (e, o) askable;
      least = λ h. absurd (cc);
    }

pub returns-clause-valid : goal.returns-clause-valid
returns-clause-valid c =
    valid c.in_ok-estimate.estimate c.new.result (ap numbers_of c.in_ok-estimate.ensures) (ap numbers_of c.new.ensures)

-- the problem with these effects
abbrev posed : List ℕ → List ℕ → Problem
posed estimate others =
    record {
      dimensions = record { q = 2; m = 1; s = 4; t = 0 };
      requirement = ForEffects estimate others;
      least = false;
    }

pub returns-clause-problem : goal.returns-clause-problem
returns-clause-problem c =
    ap (λ (v : List ℕ). posed v (numbers_of c.new.result)) (ap numbers_of c.in_ok-estimate.ensures) ∙ ap
    (λ (v : List ℕ). posed (3 ∷ []) v) (ap numbers_of c.new.ensures)
