-- Rules of canonical designs with a base.
use Rattle.std.specs.Prelude.{ℕ, ◌≡◌, ◌==◌, ◌+◌, if◌then◌else◌, List, ◌++◌, map, length, take, drop}
use Rattle.fx_designs.specs.Vectors.{vectors_of}
use Rattle.fx_laws.specs.Changes.{IsChange}
use Rattle.fx_laws.specs.Scalings.{AreScalars, scaled}
use Rattle.fx_vectors.specs.declared.shape.Shape.{Shape}
use Rattle.fx_strata.specs.Designs.{Strata, Order, key_of, key_of_design, IsLeast}
use Rattle.fx_strata.specs.Canonical.{units, base, figures, IsDesign}
use Rattle.fx_strata.specs.Laws.{IsAlike}
use Rattle.fx_table_book.specs.declared.base.Base.{Base}
use Rattle.fx_table_book.specs.Tables.{strata_of}

-- how many block factors there are; in split plots the inside factors span the base, and there are none
abbrev pub block_factors : Strata → ℕ
block_factors x = (if x.w == 0 then x.h else 0)

-- the shape of the rule matrices
abbrev pub rule_shape : Base → Shape
rule_shape base = record { q = base.q; m = base.m; s = base.w + base.n; t = block_factors (strata_of base) }

-- the rows of the factors of a canonical design, and after them those of the block factors
abbrev pub all_rows : Strata → List ℕ → List ℕ
all_rows x rows = rows ++ units x.q 0 (block_factors x)

-- rules of a canonical design: a change of the run indexes takes all its rows to them, each times a code that is not 0
pub record AreRulesOf (x : Strata) (rows rules : List ℕ) : Type 0 where
  pub change : List ℕ → List ℕ
  pub invertible : IsChange x.q x.m change
  pub factors : List ℕ
  pub codes : AreScalars x.q factors
  pub count : length factors ≡ length (all_rows x rows)
  pub are : vectors_of x.q x.m rules ≡ scaled x.q factors (map change (vectors_of x.q x.m (all_rows x rows)))

-- the rows of rules: first those of the factors, then those of the block factors
abbrev pub factor_rows : Strata → List ℕ → List (List ℕ)
factor_rows x rules = vectors_of x.q x.m (take (x.w + x.n) rules)

abbrev pub block_rows : Strata → List ℕ → List (List ℕ)
block_rows x rules = vectors_of x.q x.m (drop (x.w + x.n) rules)

-- rules of a canonical design are those of one that is alike: it has as many words of each kind and weight, and as many
-- clear ones
abbrev pub RulesAreAlike : Strata → Type 0
RulesAreAlike x = (rows rules : List ℕ)
    → IsDesign x rows
    → AreRulesOf x rows rules
    → IsAlike x (base x) (vectors_of x.q x.m rows) (block_rows x rules) (factor_rows x rules)

-- its key is that of the canonical design
abbrev pub RulesHaveKey : Strata → Order → Type 0
RulesHaveKey x order = (rows rules : List ℕ)
    → IsDesign x rows
    → AreRulesOf x rows rules
    → key_of_design x order (block_rows x rules) (factor_rows x rules) ≡ key_of order (figures x rows)

-- it is of least key where the canonical design is
abbrev pub RulesAreLeast : Strata → Order → Type 0
RulesAreLeast x order = (rows rules : List ℕ)
    → IsLeast x order (base x) (vectors_of x.q x.m rows)
    → AreRulesOf x rows rules
    → IsLeast x order (block_rows x rules) (factor_rows x rules)
