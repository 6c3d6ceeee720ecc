-- What the reading of a plan knows on its way.
use Rattle.std.specs.Prelude.{ℕ, ◌≡◌, ◌+◌, ◌-◌, true, List, ◌∷◌, length, drop, Option, Some, Result, Err}
use Rattle.fx_designs.specs.Vectors.{IsVector}
use Rattle.fx_judge.specs.declared.fault.PlanFault.{PlanFault}
use Rattle.fx_judge.specs.declared.fault.PlanStop.{PlanStop}
use Rattle.fx_judge.specs.declared.fault.PlanStop.TheVariants.{Refused, NoMemory}
use Rattle.fx_judge.specs.Plans.{PlanView}
use Rattle.fx_judge.specs.Reading.{are_values, codes_in, row_fault, unread_columns}

-- the fields of a row are values, and these are their codes
pub record AreCodes (q : ℕ) (head row : List (List ℕ)) (found : List ℕ) : Type 0 where
  pub valid : are_values q (drop (unread_columns head) row) ≡ true
  pub codes : found ≡ codes_in q head row
  pub vector : IsVector q (length row - unread_columns head) found

-- the row with this number has no fault, and these are its codes
pub record GoesOn (q : ℕ) (head : List (List ℕ)) (number : ℕ) (row : List (List ℕ)) (found : List ℕ) : Type 0 where
  pub on : (rows : List (List (List ℕ))) → row_fault q head number (row ∷ rows) ≡ row_fault q head (number + 1) rows
  pub codes : found ≡ codes_in q head row
  pub vector : IsVector q (length head - unread_columns head) found

-- the row with this number has this fault, whatever follows
pub record StopsAt (q : ℕ) (head : List (List ℕ)) (number : ℕ) (row : List (List ℕ)) (found : PlanFault) : Type 0 where
  pub stops : (rows : List (List (List ℕ))) → row_fault q head number (row ∷ rows) ≡ Some found

-- a refusal names the first fault; want of memory says nothing
abbrev pub IsFirst : PlanStop → Option PlanFault → Type 0
IsFirst (Refused found) first = first ≡ Some found
IsFirst NoMemory first = Unit {0}

-- the same of a text that was to be read
abbrev pub Explains : PlanStop → Result PlanView PlanFault → Type 0
Explains (Refused found) read = read ≡ Err found
Explains NoMemory read = Unit {0}
