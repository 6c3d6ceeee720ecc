-- Books of tables: the record of a walk through the prefixes of all canonical designs that leaves out only what an
-- entry closes.
use Rattle.std.specs.Prelude.{ℕ, ◌==◌, ◌+◌, ◌^◌, ◌&&◌, nat_lt, Bool, true, false, List, [], ◌∷◌, ◌++◌, map, filter}
use Rattle.std.specs.Prelude.{length, Option}
use Rattle.fx_designs.specs.Answers.{falling}
use Rattle.fx_designs.specs.Nodes.{last_row}
use Rattle.fx_strata.specs.Designs.{Strata, Order}
use Rattle.fx_strata.specs.Images.{has_earlier_image}
use Rattle.fx_strata.specs.Stages.{may_follow, has_no_room}
use Rattle.fx_strata.specs.Floors.{does_not_beat, cannot_beat}

-- what a book claims: no design has a key that is less than this one; where there is none, there is no design
pub record Claim : Type 0 where
  pub strata : Strata
  pub order : Order
  pub beat : Option (List ℕ)

-- An entry of the prefix whose turn it is, with its last row: a branch, whose children have their turn next; or it is
-- left out for its key, for its image under a change of the run indexes, for want of room, or for its floor.
pub data Entry : Type 0 where
  Branch : ℕ → Entry
  Worse : ℕ → Entry
  Image : ℕ → List ℕ → Entry
  NoRoom : ℕ → Entry
  Floor : ℕ → Entry

-- an entry is right where a prefix has its turn
abbrev pub is_right : Claim → List ℕ → Entry → Bool
is_right x rows (Branch r) = (r == last_row rows) && nat_lt (length rows) (x.strata.w + x.strata.n)
is_right x rows (Worse r) = (r == last_row rows) && does_not_beat x.strata x.order x.beat rows
is_right x rows (Image r change) = (r == last_row rows) && has_earlier_image x.strata change rows
is_right x rows (NoRoom r) = (r == last_row rows) && has_no_room x.strata rows
is_right x rows (Floor r) = (r == last_row rows) && cannot_beat x.strata x.order x.beat rows

-- a prefix with each row that may follow, the greatest first
abbrev pub children : Strata → List ℕ → List (List ℕ)
children x rows = map (λ r. rows ++ r ∷ []) (filter (may_follow x rows) (falling (x.q ^ x.m)))

-- whose turn it is after the entry of a prefix
abbrev pub turns_after : Claim → List ℕ → Entry → List (List ℕ) → List (List ℕ)
turns_after x rows (Branch r) others = children x.strata rows ++ others
turns_after x rows (Worse r) others = others
turns_after x rows (Image r change) others = others
turns_after x rows (NoRoom r) others = others
turns_after x rows (Floor r) others = others

-- each prefix in its turn takes one entry that is right, and no entry is left
abbrev pub are_in_turn : Claim → List (List ℕ) → List Entry → Bool
are_in_turn x [] [] = true
are_in_turn x (rows ∷ others) [] = false
are_in_turn x [] (entry ∷ entries) = false
are_in_turn x (rows ∷ others) (entry ∷ entries) =
    is_right x rows entry && are_in_turn x (turns_after x rows entry others) entries

-- the entries of a good book
abbrev pub is_good : Claim → List Entry → Bool
is_good x entries = are_in_turn x (children x.strata []) entries
