-- Small cases of the definitions, computed.
use Rattle.std.proofs.Common.{◌≡◌, refl}
use Rattle.std.specs.Prelude.{◌&&◌, nat_le, count_by}
use Rattle.fx_designs.specs.Runs.{points}
use Rattle.fx_designs.specs.Vectors.{is_normal, weight}
use Rattle.fx_designs.specs.Components.{choose, listed_count}

ways : choose 5 2 ≡ 10
ways = refl

-- the normal vectors over four factors of three levels of weight 1 and 2, and over five of two levels up to weight 3
three_levels : count_by (λ u. is_normal u && nat_le (weight u) 2) (points 3 4) ≡ listed_count 3 4 2
three_levels = refl

two_levels : count_by (λ u. is_normal u && nat_le (weight u) 3) (points 2 5) ≡ listed_count 2 5 3
two_levels = refl

-- all components of five factors of four levels
all_of_them : count_by is_normal (points 4 5) ≡ listed_count 4 5 5
all_of_them = refl

-- without effects no listing is longer
longest_without_effects : listed_count 9 40 2 ≡ 6280
longest_without_effects = refl
