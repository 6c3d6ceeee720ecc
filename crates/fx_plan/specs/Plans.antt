-- The order of a plan's rows, and the values of codes.
use Rattle.std.specs.Prelude.{ℕ, ◌==◌, Bool, if◌then◌else◌, List, [], ◌∷◌}
use Rattle.std.specs.List.{flat_map}
use Rattle.rand_pcg.specs.Lcg.{Lcg}
use Rattle.fx_outputs.specs.declared.recode.Recode.{Recode}
use Rattle.fx_outputs.specs.declared.shuffle.Shuffle.{Shuffle}
use Rattle.fx_outputs.specs.declared.shuffle.Shuffle.TheVariants.{Kept, Default, Seed}
use Rattle.fx_runs.specs.Groups.{by_group}
use Rattle.fx_runs.specs.Levels.{default_values}
use Rattle.fx_plan.specs.Draws.{generator, each_shuffled, all_shuffled}

-- items in random order, where each of n blocks stays together: the blocks are shuffled, and then each of them
abbrev pub shuffled_in_blocks : {X : Type 0} → Lcg → (X → ℕ) → ℕ → List X → List X × Lcg
shuffled_in_blocks g block n xs =
    (flat_map (λ group. group) (all_shuffled g (by_group block n xs)).0, (all_shuffled g (by_group block n xs)).1)

-- the values of the factor at a place, counted from 1
abbrev pub values_at : ℕ → List Recode → ℕ → List (List ℕ)
values_at q [] place = default_values q
values_at q (recode ∷ recodes) place = if recode.place == place then recode.values else values_at q recodes place

-- the rows of a plan in their order, each by its number from 0 among the repeated runs, and the value of each code of
-- each column
pub record Arrangement : Type 0 where
  pub order : List ℕ
  pub values : List (List (List ℕ))

-- an order of rows, and values for codes
abbrev pub arrangement : List ℕ → List (List (List ℕ)) → Arrangement
arrangement order values = record { order = order; values = values }

-- the values are shuffled, where this is asked
abbrev pub shuffled_values : Bool → Lcg → List (List (List ℕ)) → List (List (List ℕ))
shuffled_values asked g values = if asked then (each_shuffled g values).0 else values

abbrev pub shuffled_by : Lcg → Bool → (ℕ → ℕ) → ℕ → Arrangement → Arrangement
shuffled_by g asked block n a = record {
  order = (shuffled_in_blocks g block n a.order).0;
  values = shuffled_values asked (shuffled_in_blocks g block n a.order).1 a.values;
}

-- With RANDOMIZE the rows are shuffled, where `block` is the block of each, of which there are n; then the values of
-- each column, except with NOVALRAN. All draws are of one generator: that of RANDOMIZE's seed, or else of `seed`.
abbrev pub arranged : Shuffle → ℕ → (ℕ → ℕ) → ℕ → Arrangement → Arrangement
arranged Kept seed block n a = a
arranged (Default values) seed block n a = shuffled_by (generator seed) values block n a
arranged (Seed own values) seed block n a = shuffled_by (generator own) values block n a
