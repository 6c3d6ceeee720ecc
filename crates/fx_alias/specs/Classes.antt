-- Classes of components that the runs of a design do not distinguish.
use Rattle.std.specs.Prelude.{ℕ, ◌≡◌, ◌<◌, ◌==◌, ◌||◌, if◌then◌else◌, List, [], ◌∷◌, ◌++◌, filter}
use Rattle.std.specs.List.{list_any}
use Rattle.fx_designs.specs.Galois.{number, inv}
use Rattle.fx_designs.specs.Vectors.{scale, last_nonzero}
use Rattle.fx_designs.specs.Runs.{is_constant}
use Rattle.fx_designs.specs.Aliases.{is_aliased}

-- s is t times a nonzero code
pub record IsMultiple (q : ℕ) (s t : List ℕ) : Type 0 where
  pub factor : ℕ
  pub nonzero : 0 < factor
  pub code : factor < q
  pub is : s ≡ scale q factor t

-- the number of the normal multiple of a vector; that of zeros is 0
unfoldable pub class_number : ℕ → List ℕ → ℕ
class_number q s = number q (scale q (inv q (last_nonzero s)) s)

-- the components that are constant over the runs
abbrev pub constants : ℕ → List (List ℕ) → List (List ℕ) → List (List ℕ)
constants q runs components = filter (λ u. is_constant q u runs) components

-- all components that are aliased with u: its class
abbrev pub class_of : ℕ → List (List ℕ) → List (List ℕ) → List ℕ → List (List ℕ)
class_of q runs components u = filter (λ v. is_aliased q runs u v) components

-- The classes of the components that come after those of `before`, each at its first member. A component that is
-- constant is in no class.
abbrev pub classes_behind : ℕ → List (List ℕ) → List (List ℕ) → List (List ℕ) → List (List ℕ) → List (List (List ℕ))
classes_behind q runs components before [] = []
classes_behind q runs components before (u ∷ rest) =
    (if is_constant q u runs || list_any (λ v. is_aliased q runs u v) before
    then [] else class_of q runs components u ∷ [])
    ++ classes_behind q runs components (before ++ u ∷ []) rest

-- the classes of components, ordered by first member
abbrev pub classes : ℕ → List (List ℕ) → List (List ℕ) → List (List (List ℕ))
classes q runs components = classes_behind q runs components [] components

-- the same by numbers: the items of one number other than 0 are a class
abbrev pub numbered_behind : {X : Type 0} → (X → ℕ) → List X → List X → List X → List (List X)
numbered_behind number items before [] = []
numbered_behind number items before (u ∷ rest) =
    (if (number u == 0) || list_any (λ v. number u == number v) before
    then [] else filter (λ v. number u == number v) items ∷ [])
    ++ numbered_behind number items (before ++ u ∷ []) rest
