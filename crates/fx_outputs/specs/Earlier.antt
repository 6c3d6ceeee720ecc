-- What an OUTPUT statement needs of those before it in the program: their names, rows and columns.
use Rattle.std.specs.Prelude.{ℕ, ◌≡◌, ◌≤◌, List, [], ◌++◌, Vec, map, slice_index_or}
use Rattle.std.specs.Map.{lookup}
use Rattle.std.specs.Str.{bytes_eq, str_to_ascii_lowercase}
use Rattle.fx_text.specs.Names.{place_of}
use Rattle.fx_outputs.specs.declared.earlier.EarlierPlan.{EarlierPlan}
use Rattle.fx_outputs.specs.declared.replication.Rep.{Rep}
use Rattle.fx_outputs.specs.declared.replication.TheConstants.{MOST_ROWS}
use Rattle.fx_outputs.specs.declared.replication.Rep.TheVariants.{Times, Plan}
use Rattle.fx_outputs.specs.Histories.{built}

-- the names of plans
abbrev pub plan_names : List EarlierPlan → List (List ℕ)
plan_names plans = map (λ (p : EarlierPlan). p.name) plans

-- how many rows a replication makes of one: a named plan counts with its own
abbrev pub rep_rows : List EarlierPlan → Rep → ℕ
rep_rows earlier (Times n) = n
rep_rows earlier (Plan number) = slice_index_or (map (λ (p : EarlierPlan). p.rows) earlier) number 0

-- the columns that a replication adds, where the columns of each plan's file are known
abbrev pub rep_columns : List (List (List ℕ)) → Rep → List (List ℕ)
rep_columns known (Times n) = []
rep_columns known (Plan number) = slice_index_or known number []

-- the columns of a plan's file: its own, and those of the plans that it names
abbrev pub plan_columns : List (List (List ℕ)) → EarlierPlan → List (List ℕ)
plan_columns known plan = plan.own ++ (rep_columns known plan.pointrep ++ rep_columns known plan.designrep)

-- the columns of the file of each plan
abbrev pub file_columns : List EarlierPlan → List (List (List ℕ))
file_columns plans = built plan_columns [] plans

-- a file has at most 200,000 rows
abbrev pub HasFewRows : EarlierPlan → Type 0
HasFewRows plan = plan.rows ≤ MOST_ROWS

-- each name has its number at its lowercase form
abbrev pub AreNumbered : {A : Type 0} → List (List ℕ) → List (Vec ℕ A × ℕ) → Type 0
AreNumbered {A} names numbers =
    (name : List ℕ)
    → lookup (λ (form : Vec ℕ A). bytes_eq (str_to_ascii_lowercase name) form.items) numbers ≡ place_of name names
