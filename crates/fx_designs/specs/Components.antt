-- The components of effects that a listing has: normal vectors over the factors, each once, in order; and how many they
-- are.
use Rattle.std.specs.Prelude.{ℕ, zero, suc, ◌+◌, ◌-◌, ◌*◌, ◌^◌, Bool, true, false, if◌then◌else◌, List, [], ◌∷◌, ◌++◌}
use Rattle.std.specs.Prelude.{map}
use Rattle.std.specs.List.{flat_map, list_any, range_with_len}

-- which of s factors are in a set, for each set of k of them, in dictionary order of their places
abbrev pub supports : ℕ → ℕ → List (List Bool)
supports zero zero = [] ∷ []
supports (suc k) zero = []
supports zero (suc s) = map (λ set. false ∷ set) (supports zero s)
supports (suc k) (suc s) = map (λ set. true ∷ set) (supports k s) ++ map (λ set. false ∷ set) (supports (suc k) s)

-- the nonzero codes that a place can have before these places: 1 alone at the last place of a support
abbrev pub codes_before : ℕ → List Bool → List ℕ
codes_before q later = if list_any (λ b. b) later then range_with_len 1 (q - 1) else 1 ∷ []

-- the normal vectors with this support, in rising order of number
abbrev pub normal_vectors : ℕ → List Bool → List (List ℕ)
normal_vectors q [] = [] ∷ []
normal_vectors q (false ∷ later) = map (λ v. 0 ∷ v) (normal_vectors q later)
normal_vectors q (true ∷ later) = flat_map (λ v. map (λ c. c ∷ v) (codes_before q later)) (normal_vectors q later)

-- the components of 1 to d of s factors: first by their number of factors, then by the places of these, then by number
abbrev pub components : ℕ → ℕ → ℕ → List (List ℕ)
components q s d = flat_map (λ k. flat_map (normal_vectors q) (supports (k + 1) s)) (range_with_len 0 d)

-- the number of sets of k among n
abbrev pub choose : ℕ → ℕ → ℕ
choose n zero = 1
choose zero (suc k) = 0
choose (suc n) (suc k) = choose n k + choose n (suc k)

-- the number of components of k of s factors
abbrev pub component_count : ℕ → ℕ → ℕ → ℕ
component_count q s k = choose s k * (q - 1) ^ (k - 1)

-- the number of components of 1 to d of s factors
abbrev pub listed_count : ℕ → ℕ → ℕ → ℕ
listed_count q s zero = 0
listed_count q s (suc d) = listed_count q s d + component_count q s (suc d)
