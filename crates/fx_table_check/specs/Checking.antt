-- What the checker of books of tables returns.
use Rattle.std.specs.Prelude.{ℕ, ◌≡◌, ◌==◌, ◌+◌, nat_lt, Bool, if◌then◌else◌, List, [], ◌∷◌, ◌++◌, Option, Some, None}
use Rattle.std.specs.Prelude.{map, filter, length, take, slice_index, zero, suc}
use Rattle.fx_designs.specs.Answers.{falling}
use Rattle.fx_designs.specs.Nodes.{last_row}
use Rattle.fx_strata.specs.Designs.{Strata}
use Rattle.fx_strata.specs.Stages.{may_follow, has_no_room}
use Rattle.fx_strata.specs.Images.{has_earlier_image}
use Rattle.fx_strata.specs.Floors.{does_not_beat, cannot_beat}
use Rattle.fx_strata.specs.Books.{Claim, Entry, Branch, Worse, Image, NoRoom, Floor, children, turns_after}
use Rattle.fx_table_check.specs.declared.reason.Reason.{Reason}
use Rattle.fx_table_check.specs.declared.reason.Reason.TheVariants.{NoTurn, Ended, OtherRow, Whole, LowKey}
use Rattle.fx_table_check.specs.declared.reason.Reason.TheVariants.{NoEarlierImage, HasRoom, LowFloor}
use Rattle.fx_table_check.specs.declared.reason.Verdict.{Verdict}
use Rattle.fx_table_check.specs.declared.reason.Verdict.TheVariants.{Accepted, Rejected}

-- an entry's row is another than the last one of the prefix; or there is this reason, unless something holds
abbrev pub reason_of : ℕ → ℕ → Bool → Reason → Option Reason
reason_of own last holds reason = (if own == last then (if holds then None else Some reason) else Some OtherRow)

-- what is wrong with an entry where a prefix has its turn, if anything is
abbrev pub flaw : Claim → List ℕ → Entry → Option Reason
flaw x rows (Branch r) = reason_of r (last_row rows) (nat_lt (length rows) (x.strata.w + x.strata.n)) Whole
flaw x rows (Worse r) = reason_of r (last_row rows) (does_not_beat x.strata x.order x.beat rows) LowKey
flaw x rows (Image r change) = reason_of r (last_row rows) (has_earlier_image x.strata change rows) NoEarlierImage
flaw x rows (NoRoom r) = reason_of r (last_row rows) (has_no_room x.strata rows) HasRoom
flaw x rows (Floor r) = reason_of r (last_row rows) (cannot_beat x.strata x.order x.beat rows) LowFloor

-- an entry, by its place, that has a flaw, and why
pub record Flaw : Type 0 where
  pub place : ℕ
  pub reason : Reason

-- a flaw at a place, where there is one, and else the first of the entries after it
abbrev pub or_later : ℕ → Option Reason → Option Flaw → Option Flaw
or_later place None later = later
or_later place (Some reason) later = Some (record { place = place; reason = reason })

-- the first flaw of the entries from a place on, where these prefixes have their turn
unfoldable pub first_flaw : Claim → List (List ℕ) → ℕ → List Entry → Option Flaw
first_flaw x [] place [] = None
first_flaw x (rows ∷ others) place [] = Some (record { place = place; reason = Ended })
first_flaw x [] place (entry ∷ entries) = Some (record { place = place; reason = NoTurn })
first_flaw x (rows ∷ others) place (entry ∷ entries) =
    or_later place (flaw x rows entry) (first_flaw x (turns_after x rows entry others) (place + 1) entries)

-- the first flaw of a book's entries, or none
abbrev pub flaw_of : Claim → List Entry → Option Flaw
flaw_of x entries = first_flaw x (children x.strata []) 0 entries

abbrev pub verdict_of : Option Flaw → Verdict
verdict_of None = Accepted
verdict_of (Some x) = Rejected x.place x.reason

-- a prefix with each row below a bound that may follow, the greatest first
abbrev pub children_below : Strata → List ℕ → ℕ → List (List ℕ)
children_below x rows n = map (λ r. rows ++ r ∷ []) (filter (may_follow x rows) (falling n))

-- what has its turn after all that is below the first k rows
abbrev pub after : Strata → List ℕ → ℕ → List (List ℕ)
after x rows zero = []
after x rows (suc k) = children_below x (take k rows) (slice_index rows k) ++ after x rows k

-- what has its turn, where of a prefix the children from a bound on are done
abbrev pub pending : Strata → List ℕ → ℕ → List (List ℕ)
pending x rows below = children_below x rows below ++ after x rows (length rows)

-- where a next prefix is found
abbrev pub IsNext : Strata → List (List ℕ) → List ℕ → Option ℕ → Type 0
IsNext x turns rows None = turns ≡ []
IsNext x turns rows (Some row) = turns ≡ (rows ++ row ∷ []) ∷ pending x rows row

abbrev pub IsGreatest : Strata → List ℕ → ℕ → Option ℕ → Type 0
IsGreatest x rows below None = filter (may_follow x rows) (falling below) ≡ []
IsGreatest x rows below (Some row) =
    filter (may_follow x rows) (falling below) ≡ row ∷ filter (may_follow x rows) (falling row)
