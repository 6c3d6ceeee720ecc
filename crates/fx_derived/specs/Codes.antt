-- Derived factors: factors whose levels are those of several factors together.
use Rattle.std.specs.Prelude.{ℕ, ◌≡◌, ◌≢◌, ◌<◌, ◌≤◌, ◌+◌, ◌-◌, ◌*◌, ◌^◌, ◌==◌, Bool, true, List, [], ◌∷◌, length, map}
use Rattle.std.specs.Prelude.{slice_index, count_by, All, AllPairs, Contains}
use Rattle.std.specs.List.{list_all, range_with_len}
use Rattle.fx_designs.specs.Vectors.{IsVector, zeros}
use Rattle.fx_designs.specs.Runs.{is_constant}

-- the derived code of codes x_1 to x_k: x_1 q^(k-1) + .. + x_k
abbrev pub derived_code : ℕ → List ℕ → ℕ
derived_code q [] = 0
derived_code q (x ∷ codes) = x * q ^ length codes + derived_code q codes

-- the codes of a run at places, which count from 1
abbrev pub codes_at : List ℕ → List ℕ → List ℕ
codes_at places x = map (λ p. slice_index x (p - 1)) places

-- the code of a run as a derived factor of the factors at these places
abbrev pub derived_level : ℕ → List ℕ → List ℕ → ℕ
derived_level q places x = derived_code q (codes_at places x)

-- on how many runs the derived factor has this code
abbrev pub level_count : ℕ → List ℕ → ℕ → List (List ℕ) → ℕ
level_count q places y runs = count_by (λ x. derived_level q places x == y) runs

-- each derived level comes equally often over the runs
unfoldable pub are_levels_balanced : ℕ → List ℕ → List (List ℕ) → Bool
are_levels_balanced q places runs =
    list_all (λ y. list_all (λ z. level_count q places y runs == level_count q places z runs)
    (range_with_len 0 (q ^ length places))) (range_with_len 0 (q ^ length places))

-- different places among s factors
pub record ArePlaces (s : ℕ) (places : List ℕ) : Type 0 where
  pub from_1 : All (λ p. 1 ≤ p) places
  pub factors : All (λ p. p ≤ s) places
  pub different : AllPairs (λ a b. a ≢ b) places

-- a defining word that is supported on the places: a vector over the s factors that is zero at every other place, is
-- not zero, and is constant over the runs
pub record IsWordOn (q s : ℕ) (runs : List (List ℕ)) (places word : List ℕ) : Type 0 where
  pub vector : IsVector q s word
  pub supported : (i : ℕ) → i < s → slice_index word i ≢ 0 → Contains places (i + 1)
  pub not_zero : word ≢ zeros s
  pub constant : is_constant q word runs ≡ true
