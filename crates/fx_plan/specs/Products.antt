-- Plans: the runs, repeated by the rows of POINTREP's and of DESIGNREP's table, in their order.
use Rattle.std.specs.Prelude.{ℕ, ◌≡◌, ◌≢◌, ◌≤◌, ◌<◌, ◌*◌, ◌/◌, ◌%◌, ◌^◌, ◌==◌, if◌then◌else◌, true, false, List, []}
use Rattle.std.specs.Prelude.{◌∷◌, ◌++◌, length, map, replicate, slice_index_or, Option, Some, None, All}
use Rattle.std.specs.List.{range_with_len}
use Rattle.fx_runs.specs.Runs.{RunsView}
use Rattle.fx_runs.specs.RunBlocks.{block_of, run_at}
use Rattle.fx_derived.specs.Tables.{TableView, crossed}
use Rattle.fx_outputs.specs.declared.output.OutputSpec.{OutputSpec}
use Rattle.fx_outputs.specs.declared.recode.Recode.{Recode}
use Rattle.fx_outputs.specs.declared.replication.Rep.{Rep}
use Rattle.fx_outputs.specs.declared.replication.Rep.TheVariants.{Times, Plan}
use Rattle.fx_outputs.specs.declared.shuffle.Shuffle.TheVariants.{Kept}
use Rattle.fx_outputs.specs.DerivedFactors.{AreDerived}
use Rattle.fx_outputs.specs.BlockColumns.{column_name}
use Rattle.fx_plan.specs.Plans.{Arrangement, arranged, arrangement}
use Rattle.fx_plan.specs.Columns.{codes_of, column_names, column_places, column_values}
use Rattle.fx_plan.specs.Tables.{block_field, level_fields, text_of_table}

-- n rows without columns: what a number n repeats by
abbrev pub repeats : ℕ → TableView
repeats n = record { names = []; rows = replicate n [] }

-- what POINTREP or DESIGNREP repeats by: the rows of the plan that it names, or a number of them
abbrev pub rows_of_rep : Rep → Option TableView → TableView
rows_of_rep (Times n) named = repeats n
rows_of_rep (Plan number) None = repeats 0
rows_of_rep (Plan number) (Some table) = table

-- a table is handed in exactly where a plan is named
abbrev pub IsHanded : Rep → Option TableView → Type 0
IsHanded (Times n) None = Unit {0}
IsHanded (Times n) (Some table) = ⊥
IsHanded (Plan number) None = ⊥
IsHanded (Plan number) (Some table) = Unit {0}

-- the fields of run k, in columns that have values for their codes
abbrev pub own_fields : RunsView → List (List ℕ) → List (List ℕ) → List (List (List ℕ)) → ℕ → List (List ℕ)
own_fields runs block_values columns values k =
    (if runs.shape.t == 0 then [] else block_field block_values (block_of runs k) ∷ [])
    ++ level_fields (length columns) values (codes_of runs.shape.q columns (run_at runs k))

-- the runs as a table: with blocks their column, and then those of the factors and derived factors
abbrev pub runs_table : List (List ℕ) → RunsView → OutputSpec → List (List (List ℕ)) → TableView
runs_table factors runs output values = record {
  names =
      (if runs.shape.t == 0 then [] else column_name output.block_name ∷ []) ++ column_names factors output.derived;
  rows =
      map (own_fields runs output.block_values (column_places runs.shape.s output.derived) values)
      (range_with_len 0 (length runs.rows));
}

-- each run with each row of POINTREP's table in succession, and this whole list with each row of DESIGNREP's
abbrev pub replicated : TableView → TableView → TableView → TableView
replicated runs inner outer = crossed false (crossed true runs inner) outer

-- the run of row r of these, counted from 0, where each of n runs has so many rows in succession
abbrev pub run_of : ℕ → ℕ → ℕ → ℕ
run_of each n r = (r / each) % n

-- the order of the repeated runs, and the values of the codes of each column, by the program's seed
abbrev pub arrangement_of : RunsView → OutputSpec → ℕ → TableView → TableView → Arrangement
arrangement_of runs output seed inner outer =
    let n = length runs.rows in
    let each = length inner.rows in
    arranged output.shuffle seed (λ r. block_of runs (run_of each n r)) (runs.shape.q ^ runs.shape.t)
    (arrangement (range_with_len 0 (n * each * length outer.rows))
    (column_values runs.shape.q runs.shape.s output.recodes output.derived))

-- some rows of a table, by their numbers from 0
abbrev pub picked : List ℕ → TableView → TableView
picked order table = record table { rows = map (λ r. slice_index_or table.rows r []) order }

-- the plan of an arrangement
abbrev pub planned : List (List ℕ) → RunsView → OutputSpec → TableView → TableView → Arrangement → TableView
planned factors runs output inner outer a =
    picked a.order (replicated (runs_table factors runs output a.values) inner outer)

-- the plan of some runs for an output that repeats them by these rows
abbrev pub plan_of : List (List ℕ) → RunsView → OutputSpec → ℕ → TableView → TableView → TableView
plan_of factors runs output seed inner outer =
    planned factors runs output inner outer (arrangement_of runs output seed inner outer)

-- named factors, and an output for runs of so many levels, factors and blocks, of which there are at most 1,024
pub record CanBePlanned (factors : List (List ℕ)) (runs : RunsView) (output : OutputSpec) : Type 0 where
  pub names : length factors ≡ runs.shape.s
  pub recodes : All (λ (r : Recode). length r.values ≡ runs.shape.q) output.recodes
  pub derived : AreDerived runs.shape.q runs.shape.s output.derived
  pub block_values : output.block_values ≢ [] → length output.block_values ≡ runs.shape.q ^ runs.shape.t
  pub few_blocks : runs.shape.q ^ runs.shape.t ≤ 1024

-- a list of values for each column, with a value for each of its codes
pub record AreValues (runs : RunsView) (output : OutputSpec) (values : List (List (List ℕ))) : Type 0 where
  pub lengths :
      map length values
      ≡ map (λ places. runs.shape.q ^ length places) (column_places runs.shape.s output.derived)

-- rows that there are, and a value for each code of each column
pub record IsArrangement (runs : RunsView) (output : OutputSpec) (inner outer : TableView) (order : List ℕ)
    (values : List (List (List ℕ))) : Type 0 where
  pub there : All (λ r. r < length runs.rows * length inner.rows * length outer.rows) order
  pub fit : AreValues runs output values

-- what an OUTPUT statement without options asks for
abbrev pub plain_output : OutputSpec
plain_output = record {
  name = [];
  pointrep = Times 1;
  designrep = Times 1;
  shuffle = Kept;
  recodes = [];
  derived = [];
  block_name = [];
  block_values = [];
}

-- the bytes of the plan of some runs with the names of the factors and the default values, each run once, in order
abbrev pub plain_plan : List (List ℕ) → RunsView → List ℕ
plain_plan factors runs = text_of_table (plan_of factors runs plain_output 0 (repeats 1) (repeats 1))
