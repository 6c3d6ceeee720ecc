use Rattle.std.proofs.Common.{◌<◌, ◌^◌, [], ◌∷◌, refl, arith, lit<, lit≤}
use Rattle.std.specs.Int.Count.{ones}
use Rattle.std.proofs.lemmas.List.Elements.{All-from_recursion}
use Rattle.fx_vectors.specs.Effects.{factors_of}
use Rattle.fx_vectors.specs.Question.{CanBeTold}
use Rattle.mathematics_tests.proofs.runs.two_factors_in_two_runs_are_not_told_apart.Goals as goal

askable : CanBeTold 2 2 (1 ∷ 2 ∷ []) []
unfolding factors_of ones
askable =
    record {
      some = omega arith;
      estimated =
          record {
            each = All-from_recursion (λ e. (0 < e) × (e < 2 ^ 2)) (1 ∷ 2 ∷ [])
                ((lit< tt, lit< tt), ((lit< tt, lit< tt), tt));
            in_order = refl;
          };
      others = record { each = All-from_recursion (λ e. (0 < e) × (e < 2 ^ 2)) [] tt; in_order = refl };
      apart = refl;
      pairs = lit≤ tt;
    }

pub for_effects-question-requires-clause-told : goal.for_effects-question-requires-clause-told
for_effects-question-requires-clause-told g c = askable
