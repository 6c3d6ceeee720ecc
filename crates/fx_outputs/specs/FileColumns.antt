-- That no two columns of a file have the same name.
use Rattle.std.specs.Prelude.{ℕ, Bool, is_some, ◌||◌, List, ◌++◌, slice_get, Option, Some, None, Result, Ok, Err}
use Rattle.std.specs.Prelude.{if◌then◌else◌}
use Rattle.std.specs.List.{list_any}
use Rattle.fx_language.specs.declared.code.TheConstants.{REPEATED_COLUMN}
use Rattle.fx_language.specs.declared.symbol.Symbol.TheVariants.{Pointrep, Designrep}
use Rattle.fx_text.specs.declared.refusal.Refusal.{Refusal}
use Rattle.fx_text.specs.Written.{Written}
use Rattle.fx_text.specs.Names.{place_of}
use Rattle.fx_text.specs.Refusals.{refusal_at, ◌>>=◌}
use Rattle.fx_outputs.specs.declared.derived.Derived.{Derived}
use Rattle.fx_outputs.specs.declared.earlier.EarlierPlan.{EarlierPlan}
use Rattle.fx_outputs.specs.declared.replication.Rep.{Rep}
use Rattle.fx_outputs.specs.Contexts.{Context}
use Rattle.fx_outputs.specs.Options.{option_of}
use Rattle.fx_outputs.specs.Earlier.{file_columns, rep_columns}
use Rattle.fx_outputs.specs.Columns.{check_names}
use Rattle.fx_outputs.specs.OwnColumns.{other_columns, own_columns}

-- one of these names is among the others
abbrev pub meet : List (List ℕ) → List (List ℕ) → Bool
meet names others = list_any (λ name. is_some (place_of name others)) names

-- no column of a named plan is one of the file's own or of the other named plan, or E34 at the plan's name
abbrev pub check_plan : Option Written → List (List ℕ) → List (List ℕ) → List (List ℕ) → Result (Unit {0}) Refusal
check_plan None columns own others = Ok tt
check_plan (Some w) columns own others =
    if meet columns own || meet columns others then Err (refusal_at REPEATED_COLUMN w) else Ok tt

-- The columns of a file, by its block column's name, its derived factors, and what POINTREP and DESIGNREP add: each
-- derived name against the others from left to right, and then the columns of either plan.
abbrev pub check_columns : Context → List EarlierPlan → Rep × Rep → List ℕ → List Derived → List (List Written)
    → Result (Unit {0}) Refusal
check_columns context earlier reps block_name derived options =
    let point = rep_columns (file_columns earlier) reps.0 in
    let design = rep_columns (file_columns earlier) reps.1 in
    let own = own_columns context block_name derived in
    do
      _ ← check_names (other_columns context block_name derived ++ point ++ design) options
      _ ← check_plan (slice_get (option_of Pointrep options) 2) point own design
      check_plan (slice_get (option_of Designrep options) 2) design own point
