-- What `plan` makes of a text: each step with the design that its rules give, or why the text is refused.
use Rattle.std.specs.Prelude.{ℕ, ◌≡◌, ◌==◌, ◌+◌, ◌&&◌, ◌||◌, not, Bool, true, false, if◌then◌else◌, List, [], ◌∷◌}
use Rattle.std.specs.Prelude.{◌++◌, length, take, slice_range, slice_index, find, Option, Some, None, Result, Ok, Err}
use Rattle.std.specs.List.{list_any}
use Rattle.fx_designs.specs.Demands.{is_met}
use Rattle.fx_designs.specs.Problems.{Dimensions, Requirement}
use Rattle.fx_vectors.specs.Matrix.{MatrixView}
use Rattle.fx_vectors.specs.Shape.{dimensions_of}
use Rattle.fx_vectors.specs.declared.shape.Shape.{Shape}
use Rattle.fx_lexer.specs.declared.token.Token.{Token}
use Rattle.fx_lexer.specs.declared.token.LexFault.{LexFault}
use Rattle.fx_lexer.specs.declared.place.Place.{Place}
use Rattle.fx_lexer.specs.Lexing.{lexed}
use Rattle.fx_lexer.specs.Places.{place_after}
use Rattle.fx_language.specs.declared.symbol.Symbol.{Symbol}
use Rattle.fx_language.specs.declared.symbol.Symbol.TheVariants.{Proc, Semicolon}
use Rattle.fx_language.specs.Symbols.{is}
use Rattle.fx_language.specs.Keywords.{symbols_of}
use Rattle.fx_settings.specs.declared.settings.Criterion.{Criterion}
use Rattle.fx_settings.specs.declared.settings.Size.{Size}
use Rattle.fx_settings.specs.declared.settings.Size.TheVariants.{Runs, Minimum}
use Rattle.fx_settings.specs.declared.settings.StepSettings.{StepSettings}
use Rattle.fx_settings.specs.Models.{is_highest}
use Rattle.fx_settings.specs.Valid.{has_most}
use Rattle.fx_statements.specs.Questions.{question_for}
use Rattle.fx_statements.specs.Steps.{Meaning, meaning_of}
use Rattle.fx_statements.specs.declared.step.Step.{Step}
use Rattle.fx_plan.specs.Steps.{IsDesignOf}
use Rattle.fx_rules.specs.Parts.{blanked, parts_of}
use Rattle.fx_rules.specs.Reading.{matrix_of_rules}
use Rattle.fx_rules.specs.declared.parts.Part.{Part}
use Rattle.fx_rules.specs.declared.problem.RulesFault.{RulesFault}
use Rattle.fx_program.specs.Ended.{ended_output, given_lines}
use Rattle.fx_program.specs.Output.{Output, in_order, message}
use Rattle.fx_program.specs.Plans.{AskedView, asked_by}
use Rattle.fx_program.specs.Messages.{plan_fault_line}
use Rattle.fx_program.specs.Statuses.{met_status}
use Rattle.fx_program.specs.Texts.{program_in}
use Rattle.fx_program.specs.declared.plan_fault.PlanFault.{PlanFault}
use Rattle.fx_program.specs.declared.plan_fault.PlanFault.TheVariants as fault
use Rattle.fx_program.specs.declared.plan_fault.PlanStop.{PlanStop}
use Rattle.fx_program.specs.declared.plan_fault.PlanStop.TheVariants as stop
use Rattle.fx_program.specs.declared.text.TextFault.{TextFault}

-- a step, and the matrix that its rules give
pub record RuledView : Type 0 where
  pub step : Meaning
  pub matrix : MatrixView

-- where statements that begin with PROC begin, by the symbols of some tokens; `fresh`: a statement begins here
abbrev pub procs_behind : Bool → List Token → List Symbol → List ℕ
procs_behind fresh [] symbols = []
procs_behind fresh (t ∷ tokens) [] = []
procs_behind fresh (t ∷ tokens) (symbol ∷ symbols) =
    (if fresh && is Proc symbol then t.from ∷ [] else []) ++ procs_behind (is Semicolon symbol) tokens symbols

abbrev pub procs_by : List ℕ → Result (List Token) LexFault → List ℕ
procs_by text (Ok tokens) = procs_behind true tokens (symbols_of text tokens)
procs_by text (Err fault) = []

-- where the steps of a text begin: the index of each PROC that begins a statement
unfoldable pub step_starts : List ℕ → List ℕ
step_starts text = procs_by text (lexed text)

-- the place of the byte with this index
abbrev pub place_of : List ℕ → ℕ → Place
place_of text at = place_after (take at text)

-- whether a step leaves its runs, its blocks or a least pattern to a search
abbrev pub is_minimum : Size → Bool
is_minimum (Runs m) = false
is_minimum Minimum = true

abbrev pub is_searched : StepSettings → Bool
is_searched settings = settings.least || (has_most settings.blocks || is_minimum settings.size)

-- what a step asks of a design of its size: dimensions, and what its runs have to meet
abbrev pub dimensions_given : Meaning → Dimensions
dimensions_given step = (question_for step 3).dimensions

abbrev pub shape_given : Meaning → Shape
shape_given step =
    let d = dimensions_given step in record { q = d.q; m = d.m; s = d.s; t = d.t }

-- the step with the matrix of its rules, which stand behind so many bytes of the text; or what is wrong with them first
abbrev pub ruled_by : List ℕ → ℕ → Meaning → Result MatrixView RulesFault → Result RuledView PlanFault
ruled_by text before step (Ok matrix) = Ok (record { step = step; matrix = matrix })
ruled_by text before step (Err wrong) = Err (fault.Rules wrong.problem (place_of text (before + wrong.at)))

-- the step with the matrix of the rules of this part, if it is its own
abbrev pub ruled_in : List ℕ → ℕ → Meaning → Option Part → Result RuledView PlanFault
ruled_in text start step None = Err (fault.Apart (place_of text start))
ruled_in text start step (Some part) =
    if is_searched step.settings then Err (fault.Searching (place_of text part.at))
    else ruled_by text part.at step
    (matrix_of_rules (shape_given step) step.factors (slice_range text part.at part.end))

-- the part that stands before the step that begins at this index
abbrev pub part_before : List Part → ℕ → Option Part
part_before parts start = find (λ (part : Part). part.step == start) parts

abbrev pub ruled : List ℕ → List Part → ℕ → Meaning → Result RuledView PlanFault
ruled text parts start step = ruled_in text start step (part_before parts start)

-- what is made of the first steps goes before what is made of the others, where nothing is wrong
abbrev pub and_then : {A B : Type 0} → Result A PlanFault → (A → Result B PlanFault) → Result B PlanFault
and_then (Ok a) more = more a
and_then (Err wrong) more = Err wrong

-- the steps, of which these are done, each with the matrix of its rules; the first refusal ends it
abbrev pub all_ruled : List ℕ → List Part → List ℕ → List RuledView → List Meaning → Result (List RuledView) PlanFault
all_ruled text parts starts done [] = Ok done
all_ruled text parts starts done (step ∷ steps) =
    and_then (ruled text parts (slice_index starts (length done)) step)
    (λ one. all_ruled text parts starts (done ++ one ∷ []) steps)

-- a part that stands before no step
abbrev pub idle_part : List Part → List ℕ → Option Part
idle_part parts starts = find (λ (part : Part). not (list_any (λ start. start == part.step) starts)) parts

abbrev pub or_idle : List ℕ → Option Part → List RuledView → Result (List RuledView) PlanFault
or_idle text None all = Ok all
or_idle text (Some part) all = Err (fault.Apart (place_of text part.at))

-- the steps of a program that begin at these places, each with the matrix of its rules, where no rules have no step
abbrev pub ruled_steps : List ℕ → List Part → List ℕ → List Meaning → Result (List RuledView) PlanFault
ruled_steps text parts starts steps =
    and_then (all_ruled text parts starts [] steps) (or_idle text (idle_part parts starts))

-- the steps of a text with these parts, by the program that the text is without them
abbrev pub planned_by : List ℕ → List Part → List ℕ → Result (List Meaning) TextFault
    → Result (List RuledView) PlanFault
planned_by text parts starts (Err wrong) = Err (fault.Program wrong)
planned_by text parts starts (Ok steps) = ruled_steps text parts starts steps

-- The steps of a text, each with the design of its rules. The first refusal is that of the program, where the parts are
-- blanked; then step by step that of a step; then that of a part without a step.
unfoldable pub planned_in : List ℕ → Result (List RuledView) PlanFault
planned_in text =
    let parts = parts_of text in let program = blanked text parts in
    planned_by text parts (step_starts program) (program_in program)

-- whether the runs of a design meet what is required of them; under the highest resolution there is nothing to meet
abbrev pub met_under : Criterion → Dimensions → Requirement → List ℕ → Option Bool
met_under criterion d wanted rows = if is_highest criterion then None else Some (is_met d wanted rows)

abbrev pub met_by : RuledView → Option Bool
met_by ruled =
    met_under ruled.step.settings.criterion (dimensions_of ruled.matrix.shape) (question_for ruled.step 3).requirement
    ruled.matrix.rows

-- what is given for a step with a given design, by its number, the seed and the earlier OUTPUT statements
abbrev pub given_output : ℕ → ℕ → List AskedView → RuledView → Output
given_output seed number earlier ruled =
    ended_output seed number earlier ruled.step [] (Some ruled.matrix)
    (given_lines number ruled.step (met_by ruled) ruled.matrix) (met_status (met_by ruled))

abbrev pub asked_given : RuledView → List AskedView
asked_given ruled = asked_by ruled.step (Some ruled.matrix)

-- what is given for a text with rules, or for one that is refused
abbrev pub planned_output : ℕ → Result (List RuledView) PlanFault → Output
planned_output seed (Ok steps) = in_order (given_output seed) asked_given 1 [] [] 0 steps
planned_output seed (Err wrong) = message (plan_fault_line wrong) 3

-- a text is refused for this reason; want of memory says nothing of it
abbrev pub Explains : {A : Type 0} → Result A PlanFault → PlanStop → Type 0
Explains read (stop.Fault wrong) = read ≡ Err wrong
Explains read stop.NoMemory = Unit {0}

-- a step with a design of it, and whether that meets its model
pub record IsRuled (step : Step) (matrix : MatrixView) (is_met : Option Bool) : Type 0 where
  pub design : IsDesignOf step matrix
  pub met : is_met ≡ met_by (record { step = meaning_of step; matrix = matrix })
