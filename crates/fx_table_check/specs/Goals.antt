-- What the designs of a walk are compared with.
use Rattle.std.specs.Prelude.{ℕ, ◌≡◌, Bool, false, List, length, All, Option, Some, None}
use Rattle.fx_strata.specs.Designs as designs
use Rattle.fx_strata.specs.Books.{Claim}
use Rattle.fx_strata.specs.Canonical.{figures}
use Rattle.fx_strata.specs.Floors as floors
use Rattle.fx_table_book.specs.declared.base.Base.{Base}
use Rattle.fx_table_book.specs.declared.order.Part.{Part}
use Rattle.fx_table_book.specs.Tables.{strata_of, part_of, parts_of, IsWeight}
use Rattle.fx_table_check.specs.declared.goal.Goal.{Goal}

-- the claim that designs of a base do no better
abbrev pub claim_in : Base → Goal → Claim
claim_in base goal = record { strata = strata_of base; order = parts_of goal.parts; beat = goal.beat }

-- whether what beats a key has no constant words of three factors
abbrev pub needs_none_of : List Part → Option (List ℕ) → Bool
needs_none_of parts None = false
needs_none_of parts (Some key) = floors.needs_none (parts_of parts) key

-- a key to beat has so many entries
abbrev pub IsLong : ℕ → Option (List ℕ) → Type 0
IsLong len None = Unit {0}
IsLong len (Some key) = length key ≡ len

-- what designs of at most s factors can be compared with
pub record IsGoal (s : ℕ) (goal : Goal) : Type 0 where
  pub weights : All (IsWeight s) goal.parts
  pub key : IsLong (length goal.parts) goal.beat
  pub none : goal.none ≡ needs_none_of goal.parts goal.beat

-- what an entry of an order is worth for these rows
abbrev pub value_at : Base → List ℕ → Part → ℕ
value_at base rows part = designs.part_of (figures (strata_of base) rows) (part_of part)

-- and its floor
abbrev pub floor_of : Base → Bool → List ℕ → Part → ℕ
floor_of base none rows part = floors.floor_at (strata_of base) none rows (part_of part)
