-- What can follow a prefix of a canonical design.
use Rattle.std.specs.Prelude.{ℕ, ◌==◌, ◌+◌, ◌-◌, ◌^◌, ◌&&◌, nat_lt, nat_le, Bool, true, false, if◌then◌else◌, List, []}
use Rattle.std.specs.Prelude.{◌∷◌, ◌++◌, ◌||◌, filter, length}
use Rattle.fx_designs.specs.Answers.{falling}
use Rattle.fx_designs.specs.Nodes.{last_row}
use Rattle.fx_strata.specs.Designs.{Strata}
use Rattle.fx_strata.specs.Canonical.{dimensions_of, is_later, words}

-- a stage: its unit vectors, and the places of its rows
pub record Stage : Type 0 where
  pub first_unit : ℕ
  pub units : ℕ
  pub begin : ℕ
  pub end : ℕ

-- the stage of the row at a place: of the inside factors, or of the outside factors
abbrev pub stage_at : Strata → ℕ → Stage
stage_at x k =
    (if nat_lt k x.w
    then record { first_unit = 0; units = x.h; begin = 0; end = x.w }
    else record { first_unit = x.h; units = x.m - x.h; begin = x.w; end = x.w + x.n })

abbrev pub stage_after : Strata → List ℕ → Stage
stage_after x rows = stage_at x (length rows)

-- whether a prefix has all unit vectors of the stage of its next row
abbrev pub has_units : Strata → List ℕ → Bool
has_units x rows = nat_le ((stage_after x rows).begin + (stage_after x rows).units) (length rows)

-- behind the unit vectors the next row is below this
abbrev pub bound : Strata → List ℕ → ℕ
bound x rows =
    (if length rows == (stage_after x rows).begin + (stage_after x rows).units
    then x.q ^ ((stage_after x rows).first_unit + (stage_after x rows).units)
    else last_row rows)

-- whether a row can follow a prefix
abbrev pub may_follow : Strata → List ℕ → ℕ → Bool
may_follow x rows r =
    (if has_units x rows
    then is_later (dimensions_of x) (stage_after x rows).first_unit r && nat_lt r (bound x rows)
    else r == x.q ^ ((stage_after x rows).first_unit + (length rows - (stage_after x rows).begin)))

-- the rows that can still follow in its stage, the greatest first, where the unit vectors are there
abbrev pub later_rows : Strata → List ℕ → List ℕ
later_rows x rows = filter (λ r. is_later (dimensions_of x) (stage_after x rows).first_unit r) (falling (bound x rows))

-- how many rows of the stage are missing
abbrev pub missing : Strata → List ℕ → ℕ
missing x rows = (stage_after x rows).end - length rows

-- whether fewer rows can follow than are missing
abbrev pub has_no_room : Strata → List ℕ → Bool
has_no_room x rows = has_units x rows && nat_lt (length (later_rows x rows)) (missing x rows)

-- whether rows follow one another behind others
abbrev pub do_follow : Strata → List ℕ → List ℕ → Bool
do_follow x done [] = true
do_follow x done (r ∷ rows) = may_follow x done r && do_follow x (done ++ r ∷ []) rows

-- whether the numbers of a design fit: the inside factors, if any, can span the base, and the outside factors the rest
abbrev pub is_proper : Strata → Bool
is_proper x = nat_le x.h x.m && (nat_le x.m (x.h + x.n) && ((x.w == 0) || nat_le x.h x.w))

-- whether rows are those of a canonical design
abbrev pub is_design : Strata → List ℕ → Bool
is_design x rows =
    is_proper x
    && ((length rows == x.w + x.n)
    && (do_follow x [] rows && ((words x rows false 1 == 0) && (words x rows false 2 == 0))))
