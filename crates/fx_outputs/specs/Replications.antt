-- POINTREP and DESIGNREP: how often each run is repeated in the file, and how often the whole design; or with each row
-- of which earlier plan.
use Rattle.std.specs.Prelude.{ℕ, ◌*◌, nat_le, ◌&&◌, List, slice_get, Option, Some, None, Result, Ok, Err, if◌then◌else◌}
use Rattle.fx_outputs.specs.declared.replication.TheConstants.{MOST_ROWS}
use Rattle.fx_language.specs.declared.code.TheConstants.{INVALID_REPLICATION, TOO_MANY_ROWS, UNKNOWN_PLAN}
use Rattle.fx_language.specs.declared.symbol.Symbol.TheVariants.{Pointrep, Designrep, Whole}
use Rattle.fx_language.specs.Symbols.{is}
use Rattle.fx_text.specs.declared.refusal.Refusal.{Refusal}
use Rattle.fx_text.specs.Written.{Written}
use Rattle.fx_text.specs.Names.{place_of}
use Rattle.fx_text.specs.Numbers.{number_of}
use Rattle.fx_text.specs.Refusals.{refusal_at, ◌>>=◌}
use Rattle.fx_outputs.specs.declared.earlier.EarlierPlan.{EarlierPlan}
use Rattle.fx_outputs.specs.declared.replication.Rep.{Rep}
use Rattle.fx_outputs.specs.declared.replication.Rep.TheVariants.{Times, Plan}
use Rattle.fx_outputs.specs.Options.{option_of}
use Rattle.fx_outputs.specs.Earlier.{plan_names}

-- a number from 1 to 200,000, or E20
abbrev pub replication_in_range : Written → Option ℕ → Result ℕ Refusal
replication_in_range w (Some n) =
    if nat_le 1 n && nat_le n MOST_ROWS then Ok n else Err (refusal_at INVALID_REPLICATION w)
replication_in_range w None = Err (refusal_at INVALID_REPLICATION w)

-- such a number, where a number is written
abbrev pub check_number : Option Written → Result (Unit {0}) Refusal
check_number None = Ok tt
check_number (Some w) =
    if is Whole w.symbol then (replication_in_range w (number_of w) >>= λ n. Ok tt) else Ok tt

-- the earlier plan of this number, or E33 at the name
abbrev pub plan_at : Written → Option ℕ → Result Rep Refusal
plan_at w (Some number) = Ok (Plan number)
plan_at w None = Err (refusal_at UNKNOWN_PLAN w)

-- so often, and once where nothing is written; or with each row of the earlier plan that is named
abbrev pub rep_at : List EarlierPlan → Option Written → Result Rep Refusal
rep_at earlier None = Ok (Times 1)
rep_at earlier (Some w) =
    if is Whole w.symbol
    then (replication_in_range w (number_of w) >>= λ n. Ok (Times n))
    else plan_at w (place_of w.text (plan_names earlier))

-- POINTREP and DESIGNREP: first the numbers, then the names
abbrev pub reps_of : List EarlierPlan → List (List Written) → Result (Rep × Rep) Refusal
reps_of earlier options =
    let point = slice_get (option_of Pointrep options) 2 in
    let design = slice_get (option_of Designrep options) 2 in
    do
      _ ← check_number point
      _ ← check_number design
      pointrep ← rep_at earlier point
      designrep ← rep_at earlier design
      Ok (pointrep, designrep)

-- at most 200,000 rows, or E21 at the OUT name
abbrev pub check_rows : ℕ → ℕ → ℕ → Written → Result (Unit {0}) Refusal
check_rows runs pointrep designrep name =
    if nat_le (runs * pointrep * designrep) MOST_ROWS then Ok tt else Err (refusal_at TOO_MANY_ROWS name)
