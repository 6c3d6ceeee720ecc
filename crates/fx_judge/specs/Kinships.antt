-- What the rows of a plan show of two components, by counts.
use Rattle.std.specs.Prelude.{ℕ, ◌*◌, ◌==◌, ◌&&◌, Bool, if◌then◌else◌, List, length, count_by}
use Rattle.std.specs.List.{list_all}
use Rattle.fx_designs.specs.Galois.{codes_of}
use Rattle.fx_designs.specs.Vectors.{dot}
use Rattle.fx_designs.specs.Runs.{count_of}
use Rattle.fx_designs.specs.Aliases.{is_aliased}
use Rattle.fx_judge.specs.declared.kinship.Kinship.{Kinship}
use Rattle.fx_judge.specs.declared.kinship.Kinship.TheVariants.{Aliased, Orthogonal, Partial}

-- on how many rows x u.x is a and v.x is b
abbrev pub joint_count : ℕ → List (List ℕ) → List ℕ → List ℕ → ℕ → ℕ → ℕ
joint_count q rows u v a b = count_by (λ x. (dot q u x == a) && (dot q v x == b)) rows

-- each two values come together as often as if u.x and v.x had nothing to do with one another: so many times the number
-- of rows is the product of how often each of them comes
unfoldable pub are_orthogonal : ℕ → List (List ℕ) → List ℕ → List ℕ → Bool
are_orthogonal q rows u v =
    list_all (λ a. list_all (λ b. length rows * joint_count q rows u v a b == count_of q u a rows * count_of q v b rows)
    (codes_of q)) (codes_of q)

-- aliased, as the runs of a design are; else orthogonal or partial
abbrev pub kinship : ℕ → List (List ℕ) → List ℕ → List ℕ → Kinship
kinship q rows u v =
    if is_aliased q rows u v then Aliased else if are_orthogonal q rows u v then Orthogonal else Partial
