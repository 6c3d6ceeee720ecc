-- The steps of a text with rules are those of the program that it is without them, each with the matrix of some rules.
use Rattle.std.proofs.Common.{ℕ, ◌≡◌, Bool, true, false, List, [], ◌∷◌, ◌++◌, map, length, slice_index}
use Rattle.std.proofs.Common.{append_assoc, append-nil, Option, Some, None, Result, Ok, Err, refl, sym, subst}
use Rattle.std.specs.Prelude.{slice_range}
use Rattle.std.specs.List.{AllByRecursion}
use Rattle.std.proofs.lemmas.List.{map-append}
use Rattle.std.proofs.lemmas.Result.{IfOk-at_ok}
use Rattle.fx_base.proofs.Lists.{each-append}
use Rattle.fx_vectors.specs.Matrix.{MatrixView}
use Rattle.fx_statements.specs.Steps.{Meaning}
use Rattle.fx_rules.specs.Parts.{blanked, parts_of}
use Rattle.fx_rules.specs.Reading.{matrix_of_rules}
use Rattle.fx_rules.specs.declared.parts.Part.{Part}
use Rattle.fx_rules.specs.declared.problem.RulesFault.{RulesFault}
use Rattle.fx_program.specs.Planning.{RuledView, all_ruled, and_then, idle_part, is_searched, or_idle, planned_by}
use Rattle.fx_program.specs.Planning.{planned_in}
use Rattle.fx_program.specs.Planning.{ruled, ruled_by, ruled_in, ruled_steps, shape_given, step_starts}
use Rattle.fx_program.specs.Texts.{program_in}
use Rattle.fx_program.specs.declared.plan_fault.PlanFault.{PlanFault}
use Rattle.fx_program.specs.declared.text.TextFault.{TextFault}

-- a step that leaves nothing to a search, and the matrix that some rules give it
pub record IsRuledBy (one : RuledView) : Type 0 where
  pub fixed : is_searched one.step.settings ≡ false
  pub rules : List ℕ
  pub read : matrix_of_rules (shape_given one.step) one.step.factors rules ≡ Ok one.matrix

-- what is made of this step
record IsMadeOf (step : Meaning) (one : RuledView) : Type 0 where
  pub same : one.step ≡ step
  pub own : IsRuledBy one

-- what is made of these steps behind those that are done
record AreMadeOf (done : List RuledView) (steps : List Meaning) (all : List RuledView) : Type 0 where
  pub steps_are : map (λ (one : RuledView). one.step) all ≡ map (λ (one : RuledView). one.step) done ++ steps
  pub each : AllByRecursion IsRuledBy all

by_rules : (text : List ℕ) (before : ℕ) (step : Meaning) (rules : List ℕ) (read : Result MatrixView RulesFault)
    (one : RuledView)
    → is_searched step.settings ≡ false → matrix_of_rules (shape_given step) step.factors rules ≡ read
    → ruled_by text before step read ≡ Ok one → IsMadeOf step one
by_rules text before step rules (Ok matrix) one fixed is e =
    IfOk-at_ok (IsMadeOf step) e
    (record { same = refl; own = record { fixed = fixed; rules = rules; read = is } })
by_rules text before step rules (Err wrong) one fixed is e = cc e

by_part : (text : List ℕ) (start : ℕ) (step : Meaning) (found : Option Part) (one : RuledView)
    → ruled_in text start step found ≡ Ok one → IsMadeOf step one
by_part text start step None one e = cc e
by_part text start step (Some part) one e = by_kind (is_searched step.settings) refl
  where
    by_kind : (b : Bool) → is_searched step.settings ≡ b → IsMadeOf step one
    by_kind true is = cc (rw is at e)
    by_kind false is =
        by_rules text part.at step (slice_range text part.at part.end) _ one is refl (rw is at e)

module _ (text : List ℕ) (parts : List Part) (starts : List ℕ) where
  one_more : (done all : List RuledView) (step : Meaning) (steps : List Meaning) (r : Result RuledView PlanFault)
      → ruled text parts (slice_index starts (length done)) step ≡ r
      → AllByRecursion IsRuledBy done
      → ((one : RuledView) → AllByRecursion IsRuledBy (done ++ one ∷ [])
      → all_ruled text parts starts (done ++ one ∷ []) steps ≡ Ok all → AreMadeOf (done ++ one ∷ []) steps all)
      → and_then r (λ one. all_ruled text parts starts (done ++ one ∷ []) steps) ≡ Ok all
      → AreMadeOf done (step ∷ steps) all
  one_more done all step steps (Ok one) is before more left =
      let made = by_part text _ step _ one is in
      let later = more one (each-append IsRuledBy done (one ∷ []) before (made.own, tt)) left in
      let front = map (λ one. one.step) done in
      record {
        steps_are = cc (map-append (λ one. one.step) done (one ∷ []), append_assoc front (one.step ∷ []) steps);
        each = later.each;
      }
  one_more done all step steps (Err wrong) is before more left = cc left

  all_made : (done all : List RuledView) (steps : List Meaning) → AllByRecursion IsRuledBy done
      → all_ruled text parts starts done steps ≡ Ok all → AreMadeOf done steps all
  all_made done all [] before e =
      IfOk-at_ok (AreMadeOf done []) e
      (record { steps_are = sym (append-nil (map (λ one. one.step) done)); each = before })
  all_made done all (step ∷ steps) before e =
      one_more done all step steps _ refl before
      (λ one longer left. all_made (done ++ one ∷ []) all steps longer left) e

  none_idle : (found : Option Part) (made all : List RuledView) → or_idle text found made ≡ Ok all → made ≡ all
  none_idle None made all e = IfOk-at_ok (λ x. made ≡ x) e refl
  none_idle (Some part) made all e = cc e

  made_steps : (all : List RuledView) (steps : List Meaning) → ruled_steps text parts starts steps ≡ Ok all
      → AreMadeOf [] steps all
  made_steps all steps e = by_made _ refl e
    where
      by_made : (r : Result (List RuledView) PlanFault) → all_ruled text parts starts [] steps ≡ r
          → and_then r (or_idle text (idle_part parts starts)) ≡ Ok all → AreMadeOf [] steps all
      by_made (Ok made) is left =
          subst (AreMadeOf [] steps) (none_idle _ made all left) (all_made [] made steps tt is)
      by_made (Err wrong) is left = cc left

-- the steps of a text with rules
pub record ArePlanned (text : List ℕ) (all : List RuledView) : Type 0 where
  pub program : program_in (blanked text (parts_of text)) ≡ Ok (map (λ (one : RuledView). one.step) all)
  pub each : AllByRecursion IsRuledBy all

pub are_planned : (text : List ℕ) (all : List RuledView) → planned_in text ≡ Ok all → ArePlanned text all
unfolding planned_in
are_planned text all e = by_program _ refl e
  where
    by_program : (program : Result (List Meaning) TextFault) → program_in (blanked text (parts_of text)) ≡ program
        → planned_by text (parts_of text) (step_starts (blanked text (parts_of text))) program ≡ Ok all
        → ArePlanned text all
    by_program (Ok steps) is left =
        let made = made_steps text (parts_of text) (step_starts (blanked text (parts_of text))) all steps left in
        record { program = cc (is, made.steps_are); each = made.each }
    by_program (Err wrong) is left = cc left
