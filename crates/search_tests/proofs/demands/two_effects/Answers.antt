use Rattle.std.proofs.Common.{◌≡◌, ◌<◌, ◌^◌, List, [], ◌∷◌, false, refl, ap, arith, lit<, lit≤}
use Rattle.std.specs.Int.Count.{ones}
use Rattle.std.proofs.lemmas.List.Elements.{All-from_recursion}
use Rattle.fx_vectors.specs.Effects.{factors_of, numbers_of}
use Rattle.fx_vectors.specs.Question.{CanBeTold, IsValid}
use Rattle.fx_vectors.specs.declared.effect.Effect.{Effect}
use Rattle.fx_vectors.specs.declared.question.Demands.TheVariants.{Effects}
use Rattle.search_tests.proofs.demands.two_effects.Goals as goal

askable : CanBeTold 2 2 (1 ∷ 2 ∷ []) []
unfolding factors_of ones
askable =
    record {
      some = omega arith;
      estimated =
          record {
            each = All-from_recursion (λ e. (0 < e) × (e < 2 ^ 2)) (1 ∷ 2 ∷ [])
                ((lit< tt, lit< tt), ((lit< tt, lit< tt), tt));
            in_order = refl;
          };
      others = record { each = All-from_recursion (λ e. (0 < e) × (e < 2 ^ 2)) [] tt; in_order = refl };
      apart = refl;
      pairs = lit≤ tt;
    }

valid : (estimate others : List Effect) → numbers_of estimate ≡ 1 ∷ 2 ∷ [] → numbers_of others ≡ []
    → IsValid (record
    { shape = record { q = 2; m = 1; s = 2; t = 0 }; demands = Effects estimate others; least = false })
valid estimate others e o =
    record {
      shaped = record {
        order = refl;
        some_indexes = omega arith;
        runs = omega arith;
        some_factors = omega arith;
        factors = omega arith;
        factors_of_many_levels = λ many. absurd (omega (arith, many));
        block_factors = omega arith;
        factors_in_blocks = λ h. absurd (omega arith);
      };
      asked = rw (e, o) askable;
      least = λ h. absurd (cc);
    }

pub returns-clause-valid : goal.returns-clause-valid
returns-clause-valid c =
    valid c.in_ok-estimate.estimate c.new.result (ap numbers_of c.in_ok-estimate.ensures) (ap numbers_of c.new.ensures)
