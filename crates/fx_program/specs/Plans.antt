-- The plans of a program: what its OUTPUT statements ask for, of which a later one may name an earlier one.
use Rattle.std.specs.Prelude.{ℕ, ◌≡◌, ◌≤◌, ◌&&◌, Bool, not, if◌then◌else◌, List, [], length, map, slice_index_or}
use Rattle.std.specs.Prelude.{Contains, Option, Some, None, is_some}
use Rattle.fx_derived.specs.Tables.{TableView}
use Rattle.fx_outputs.specs.Histories.{built}
use Rattle.fx_outputs.specs.declared.output.OutputSpec.{OutputSpec}
use Rattle.fx_outputs.specs.declared.replication.Rep.{Rep}
use Rattle.fx_outputs.specs.declared.replication.Rep.TheVariants.{Times, Plan}
use Rattle.fx_plan.specs.Products.{plan_of, rows_of_rep}
use Rattle.fx_plan.specs.Steps.{IsDesignOf}
use Rattle.fx_runs.specs.Runs.{design_of}
use Rattle.fx_statements.specs.Steps.{Meaning}
use Rattle.fx_statements.specs.declared.step.Step.{Step}
use Rattle.fx_vectors.specs.Matrix.{MatrixView}

-- an OUTPUT statement, with the names of its step's factors and the matrix of its step, if that has one
pub record AskedView : Type 0 where
  pub factors : List (List ℕ)
  pub matrix : Option MatrixView
  pub output : OutputSpec

abbrev pub asked_as : List (List ℕ) → Option MatrixView → OutputSpec → AskedView
asked_as factors matrix output = record { factors = factors; matrix = matrix; output = output }

-- the OUTPUT statements of a step with this matrix, in order
abbrev pub asked_by : Meaning → Option MatrixView → List AskedView
asked_by step matrix = map (asked_as step.factors matrix) step.outputs

-- the plan that POINTREP or DESIGNREP names among the earlier ones, if it names one, and that is written
abbrev pub named_in : List (Option TableView) → Rep → Option TableView
named_in plans (Times n) = None
named_in plans (Plan number) = slice_index_or plans number None

-- a plan is there exactly where one is named
abbrev pub is_handed : Rep → Option TableView → Bool
is_handed (Times n) named = not (is_some named)
is_handed (Plan number) named = is_some named

-- the plan of a design for an output, repeated by the plans that it names; none where one of these is not written
abbrev pub plan_made : ℕ → List (List ℕ) → OutputSpec → MatrixView → Option TableView → Option TableView
    → Option TableView
plan_made seed factors output matrix inner outer =
    if is_handed output.pointrep inner && is_handed output.designrep outer
    then Some (plan_of factors (design_of matrix) output seed (rows_of_rep output.pointrep inner)
    (rows_of_rep output.designrep outer))
    else None

-- the same after the earlier plans; none without a matrix
abbrev pub plan_among : ℕ → List (List ℕ) → OutputSpec → List (Option TableView) → Option MatrixView
    → Option TableView
plan_among seed factors output plans None = None
plan_among seed factors output plans (Some matrix) =
    plan_made seed factors output matrix (named_in plans output.pointrep) (named_in plans output.designrep)

-- the plan of an OUTPUT statement after the earlier plans
abbrev pub plan_behind : ℕ → List (Option TableView) → AskedView → Option TableView
plan_behind seed plans asked = plan_among seed asked.factors asked.output plans asked.matrix

-- the plans of the OUTPUT statements of a program, those that are written
abbrev pub plans_of : ℕ → List AskedView → List (Option TableView)
plans_of seed asked = built (plan_behind seed) [] asked

-- the plan of an OUTPUT statement after the earlier ones
abbrev pub plan_after : ℕ → List AskedView → AskedView → Option TableView
plan_after seed earlier asked = plan_behind seed (plans_of seed earlier) asked

-- an OUTPUT statement of a step, with a design of it, if there is one
pub record IsAsked (step : Step) (output : OutputSpec) (matrix : Option MatrixView) : Type 0 where
  pub among : Contains step.outputs output
  pub short : length output.name ≤ 32
  pub design : (own : MatrixView) → matrix ≡ Some own → IsDesignOf step own
