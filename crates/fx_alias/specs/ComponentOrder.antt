-- The order in which components are listed.
use Rattle.std.specs.Prelude.{ℕ, ◌≡◌, ◌==◌, ◌&&◌, ◌||◌, not, nat_lt, Bool, true, false, List, [], ◌∷◌, map}
use Rattle.std.specs.List.{AllByRecursion}
use Rattle.fx_designs.specs.Galois.{number}
use Rattle.fx_designs.specs.Vectors.{weight}

-- which factors a vector has
abbrev pub support_of : List ℕ → List Bool
support_of v = map (λ c. nat_lt 0 c) v

-- of two sets of equally many factors the one with the first factor that is not in both, which is before the other in
-- dictionary order
abbrev pub is_first_set : List Bool → List Bool → Bool
is_first_set [] other = false
is_first_set (x ∷ set) [] = false
is_first_set (true ∷ set) (y ∷ other) = not y || is_first_set set other
is_first_set (false ∷ set) (y ∷ other) = not y && is_first_set set other

-- by the number of factors, then by these, then by number
abbrev pub is_before : ℕ → List ℕ → List ℕ → Bool
is_before q u v =
    nat_lt (weight u) (weight v)
    || ((weight u == weight v)
    && (is_first_set (support_of u) (support_of v)
    || (not (is_first_set (support_of v) (support_of u)) && nat_lt (number q u) (number q v))))

-- each of these is before all that follow
abbrev pub IsRising : {A : Type 0} → (A → A → Bool) → List A → Type 0
IsRising first [] = Unit {0}
IsRising first (x ∷ xs) = AllByRecursion (λ y. first x y ≡ true) xs × IsRising first xs
