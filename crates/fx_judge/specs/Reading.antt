-- The plan that a text of comma-separated fields tells, or the first reason why it tells none.
use Rattle.std.specs.Prelude.{ℕ, ◌+◌, ◌==◌, ◌&&◌, not, nat_lt, nat_le, Bool, true, false, if◌then◌else◌, List, [], ◌∷◌}
use Rattle.std.specs.Prelude.{map, length, drop, codes, Option, Some, None, Result, Ok, Err, position, unwrap_or}
use Rattle.std.specs.Prelude.{is_some}
use Rattle.std.specs.List.{list_all, list_any}
use Rattle.std.specs.Str.{str_eq_ignore_ascii_case, bytes_eq}
use Rattle.csv.specs.Reading.{default_config, records, strip_bom}
use Rattle.fx_lexer.specs.Bytes.{begins_word, is_word_byte}
use Rattle.fx_runs.specs.Levels.{default_values}
use Rattle.fx_judge.specs.declared.fault.FaultKind.{FaultKind}
use Rattle.fx_judge.specs.declared.fault.FaultKind.TheVariants.{TooLong, NoRuns, InvalidNames, OtherLength, NoLevel}
use Rattle.fx_judge.specs.declared.fault.FaultKind.TheVariants.{TooManyComponents, TooManyRuns}
use Rattle.fx_judge.specs.declared.fault.PlanFault.{PlanFault}
use Rattle.fx_judge.specs.Plans.{PlanView, component_total}

-- the records of a text: without a byte order mark, under the default settings of `csv`, each of any length
unfoldable pub csv_records : List ℕ → List (List (List ℕ))
csv_records text = records default_config (strip_bom text)

-- how many columns are left unread: a first one named BLOCK is
abbrev pub unread_columns : List (List ℕ) → ℕ
unread_columns [] = 0
unread_columns (name ∷ names) = if str_eq_ignore_ascii_case name (codes "BLOCK") then 1 else 0

-- the names of the factors
abbrev pub factor_names : List (List ℕ) → List (List ℕ)
factor_names head = drop (unread_columns head) head

-- a letter or `_`, and then letters, digits and `_`
abbrev pub is_identifier : List ℕ → Bool
is_identifier [] = false
is_identifier (b ∷ bytes) = begins_word b && list_all is_word_byte (b ∷ bytes)

-- a word of at most 32 bytes
abbrev pub is_name : List ℕ → Bool
is_name bytes = nat_le (length bytes) 32 && is_identifier bytes

-- no name is repeated, without regard to case
abbrev pub are_distinct : List (List ℕ) → Bool
are_distinct [] = true
are_distinct (name ∷ names) = not (list_any (str_eq_ignore_ascii_case name) names) && are_distinct names

-- each is a name, and none is repeated
abbrev pub are_fit : List (List ℕ) → Bool
are_fit names = list_all is_name names && are_distinct names

-- 1 to 40 names, none of them repeated
abbrev pub are_names : List (List ℕ) → Bool
are_names names = nat_le 1 (length names) && (nat_le (length names) 40 && are_fit names)

-- at two and three levels `+1` is read as `1`
abbrev pub without_sign : ℕ → List ℕ → List ℕ
without_sign q field = if nat_le q 3 && bytes_eq field (codes "+1") then codes "1" else field

-- the code of which a field is the default value, if it is one
abbrev pub value_code : ℕ → List ℕ → Option ℕ
value_code q field = position (λ value. bytes_eq value (without_sign q field)) (default_values q)

-- each field is a default value
abbrev pub are_values : ℕ → List (List ℕ) → Bool
are_values q fields = list_all (λ field. is_some (value_code q field)) fields

abbrev pub plan_fault : FaultKind → ℕ → PlanFault
plan_fault kind number = record { kind = kind; number = number }

-- the first fault of the records behind the head, where the next one has this number: too many rows, another number of
-- fields than the head, a field that is no value
abbrev pub row_fault : ℕ → List (List ℕ) → ℕ → List (List (List ℕ)) → Option PlanFault
row_fault q head number [] = None
row_fault q head number (row ∷ rows) =
    if number == 4098 then Some (plan_fault TooManyRuns number)
    else if not (length row == length head) then Some (plan_fault OtherLength number)
    else if not (are_values q (drop (unread_columns head) row)) then Some (plan_fault NoLevel number)
    else row_fault q head (number + 1) rows

-- the first fault of the records: no record; names that are none; too many components; no row; a fault of a row
abbrev pub first_fault : ℕ → List (List (List ℕ)) → Option PlanFault
first_fault q [] = Some (plan_fault NoRuns 1)
first_fault q (head ∷ rows) =
    if not (are_names (factor_names head)) then Some (plan_fault InvalidNames 1)
    else if nat_lt 300 (component_total q (length (factor_names head))) then Some (plan_fault TooManyComponents 1)
    else if length rows == 0 then Some (plan_fault NoRuns 2)
    else row_fault q head 2 rows

-- the codes of a row
abbrev pub codes_in : ℕ → List (List ℕ) → List (List ℕ) → List ℕ
codes_in q head row = map (λ field. unwrap_or (value_code q field) 0) (drop (unread_columns head) row)

-- the plan of records without a fault
abbrev pub plan_in : ℕ → List (List (List ℕ)) → PlanView
plan_in q [] = record { q = q; names = []; rows = [] }
plan_in q (head ∷ rows) = record { q = q; names = factor_names head; rows = map (codes_in q head) rows }

-- the plan, or the fault that comes first
abbrev pub plan_unless : Option PlanFault → PlanView → Result PlanView PlanFault
plan_unless None plan = Ok plan
plan_unless (Some found) plan = Err found

-- the plan of a text, at q levels, or the first fault of the text; a text of more than 1,048,576 bytes is not read
unfoldable pub plan_of_text : ℕ → List ℕ → Result PlanView PlanFault
plan_of_text q text =
    if nat_lt 1048576 (length text) then Err (plan_fault TooLong 1)
    else plan_unless (first_fault q (csv_records text)) (plan_in q (csv_records text))
