use Rattle.std.proofs.Common.{◌<◌, ◌^◌, [], ◌∷◌, refl, arith, lit<, lit≤}
use Rattle.std.specs.Int.Count.{ones}
use Rattle.std.proofs.lemmas.List.Elements.{All-from_recursion}
use Rattle.fx_vectors.specs.Effects.{factors_of}
use Rattle.fx_vectors.specs.Question.{CanBeTold}
use Rattle.mathematics_tests.proofs.runs.an_interaction_is_told_from_blocks.Goals as goal

askable : CanBeTold 2 3 (1 ∷ 3 ∷ []) []
unfolding factors_of ones
askable =
    record {
      some = omega arith;
      estimated =
          record {
            each = All-from_recursion (λ e. (0 < e) × (e < 2 ^ 3)) (1 ∷ 3 ∷ [])
                ((lit< tt, lit< tt), ((lit< tt, lit< tt), tt));
            in_order = refl;
          };
      others = record { each = All-from_recursion (λ e. (0 < e) × (e < 2 ^ 3)) [] tt; in_order = refl };
      apart = refl;
      pairs = lit≤ tt;
    }

pub for_effects-question-requires-clause-told : goal.for_effects-question-requires-clause-told
for_effects-question-requires-clause-told g c = askable
