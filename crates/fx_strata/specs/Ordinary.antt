-- Ordinary designs, the rule matrices of `fx_designs`, are those whose base is zero.
use Rattle.std.specs.Prelude.{ℕ, ◌≡◌, ◌-◌, ◌*◌, true, List, ◌∷◌, map, Some, None}
use Rattle.fx_designs.specs.Problems.{Dimensions, AtResolution}
use Rattle.fx_checker.specs.Laws.{NoMatrix}
use Rattle.fx_strata.specs.Designs.{Strata}
use Rattle.fx_strata.specs.Orders.{factors_first}
use Rattle.fx_strata.specs.Laws.{NoneBetter}

-- q^m runs in one group, and s factors
abbrev pub ordinary : Dimensions → Strata
ordinary d = record { q = d.q; m = d.m; h = 0; w = 0; n = d.s }

-- where no ordinary design is better than A3, A4, .., no rule matrix of resolution 3 has a less pattern
abbrev pub LessPatternsAreBetter : Dimensions → Type 0
LessPatternsAreBetter d = (pattern : List ℕ)
    → d.t ≡ 0
    → NoneBetter (record {
      strata = ordinary d;
      order = factors_first (ordinary d);
      beat = Some (map (λ a. (d.q - 1) * a) pattern);
    })
    → NoMatrix (record { dimensions = d; requirement = AtResolution 3; least = true }) (Some (0 ∷ 0 ∷ pattern))

-- where there is none, no rule matrix has resolution 3
abbrev pub MatricesAreDesigns : Dimensions → Type 0
MatricesAreDesigns d = d.t ≡ 0
    → NoneBetter (record { strata = ordinary d; order = factors_first (ordinary d); beat = None })
    → NoMatrix (record { dimensions = d; requirement = AtResolution 3; least = true }) None
