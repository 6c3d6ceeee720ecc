-- Small cases of the definitions, computed.
use Rattle.std.proofs.Common.{◌≡◌, ◌<◌, ◌^◌, true, false, [], ◌∷◌, refl, lit<, lit≤, arith}
use Rattle.std.specs.Int.Count.{ones}
use Rattle.std.proofs.lemmas.List.Elements.{All-from_recursion}
use Rattle.fx_vectors.specs.Effects.{factors_of, are_in_order, vector_count, pair_count}
use Rattle.fx_vectors.specs.Question.{CanBeTold, IsValid}
use Rattle.fx_vectors.specs.declared.question.Demands.TheVariants.{Resolution}

-- A, C and D
positions : factors_of 13 ≡ 1 ∷ 3 ∷ 4 ∷ []
unfolding factors_of
positions = refl

-- A, B, C, D, AB, AC, AD, BC, BD, CD, ABC, ABD, ACD, BCD, ABCD
all_effects_of_four : are_in_order (1 ∷ 2 ∷ 4 ∷ 8 ∷ 3 ∷ 5 ∷ 9 ∷ 6 ∷ 10 ∷ 12 ∷ 7 ∷ 11 ∷ 13 ∷ 14 ∷ 15 ∷ []) ≡ true
unfolding factors_of ones
all_effects_of_four = refl

-- AD precedes BC, though its number is greater
not_by_number : are_in_order (6 ∷ 9 ∷ []) ≡ false
unfolding factors_of ones
not_by_number = refl

not_twice : are_in_order (5 ∷ 5 ∷ []) ≡ false
unfolding factors_of ones
not_twice = refl

-- at three levels a main effect has two vectors, an effect of two factors four
three_levels : vector_count 3 (1 ∷ 2 ∷ 3 ∷ []) ≡ 8
unfolding ones
three_levels = refl

three_level_pairs : pair_count 3 (1 ∷ 2 ∷ []) (3 ∷ []) ≡ 32
unfolding ones
three_level_pairs = refl

-- of four factors at three levels, the main effects and AB may be asked for beside AC and AD
askable : CanBeTold 3 4 (1 ∷ 2 ∷ 4 ∷ 8 ∷ 3 ∷ []) (5 ∷ 9 ∷ [])
unfolding factors_of ones
askable =
    record {
      some = omega arith;
      estimated = record {
        each = All-from_recursion (λ e. (0 < e) × (e < 2 ^ 4)) (1 ∷ 2 ∷ 4 ∷ 8 ∷ 3 ∷ []) (
          (lit< tt, lit< tt),
          ((lit< tt, lit< tt), ((lit< tt, lit< tt), ((lit< tt, lit< tt), ((lit< tt, lit< tt), tt)))),
        );
        in_order = refl;
      };
      others = record {
        each = All-from_recursion (λ e. (0 < e) × (e < 2 ^ 4)) (5 ∷ 9 ∷ [])
            ((lit< tt, lit< tt), ((lit< tt, lit< tt), tt));
        in_order = refl;
      };
      apart = refl;
      pairs = lit≤ tt;
    }

-- of the half fractions of four two-level factors the one of least pattern may be asked for
least_half_fraction : IsValid
    (record { shape = record { q = 2; m = 3; s = 4; t = 0 }; demands = Resolution 4; least = true })
least_half_fraction =
    record {
      shaped = record {
        order = refl;
        some_indexes = omega arith;
        runs = omega arith;
        some_factors = omega arith;
        factors = omega arith;
        factors_of_many_levels = λ h. omega arith;
        block_factors = omega arith;
        factors_in_blocks = λ h. absurd (omega arith);
      };
      asked = (omega arith, omega arith);
      least = λ h. (refl, refl);
    }
