-- What `plan` gives for a text.
use Rattle.std.proofs.Common.{ℕ, ◌≡◌, ◌<◌, List, [], ◌∷◌, ◌++◌, length, Option, Some, None, Result, Ok, Err, All, refl}
use Rattle.std.proofs.Common.{sym, ap, subst}
use Rattle.std.proofs.Common.{◌∙◌, arith, Bool, true, false}
use Rattle.std.specs.Prelude.{find, slice_index, slice_range, if◌then◌else◌}
use Rattle.std.specs.List.{Contains}
use Rattle.std.proofs.lemmas.List.Elements.{All-nil, All-append, All-cons, All-contains, All-contains_itself, All-head}
use Rattle.std.proofs.lemmas.List.Elements.{All-tail}
use Rattle.std.proofs.lemmas.Option.{same_Some}
use Rattle.std.proofs.lemmas.Result.{IfOk-at_ok}
use Rattle.fx_vectors.specs.Matrix.{MatrixView}
use Rattle.fx_statements.specs.Steps.{Meaning}
use Rattle.fx_rules.specs.Parts.{blanked, parts_of}
use Rattle.fx_rules.specs.Reading.{matrix_of_rules}
use Rattle.fx_rules.specs.declared.parts.Part.{Part}
use Rattle.fx_rules.specs.declared.problem.RulesFault.{RulesFault}
use Rattle.fx_program.specs.Claims.{IsGreatest, IsOfItsRules, IsPlanned}
use Rattle.fx_program.specs.Commands.{command_for}
use Rattle.fx_program.specs.Output.{Output}
use Rattle.fx_program.specs.Outside.{IsCarriedOut, Outside}
use Rattle.fx_program.specs.Planning.{RuledView, all_ruled, and_then, asked_given, given_output, idle_part, is_searched}
use Rattle.fx_program.specs.Planning.{met_by}
use Rattle.fx_program.specs.Planning.{or_idle, planned_by, planned_in, planned_output, ruled, ruled_by, ruled_in}
use Rattle.fx_program.specs.Planning.{ruled_steps, shape_given, step_starts}
use Rattle.fx_program.specs.Statuses.{met_status}
use Rattle.fx_program.specs.Stops.{exit_status}
use Rattle.fx_program.specs.Texts.{program_in}
use Rattle.fx_program.specs.declared.plan_fault.PlanFault.{PlanFault}
use Rattle.fx_program.specs.declared.stop.Stop.{Stop}
use Rattle.fx_program.specs.declared.text.TextFault.{TextFault}
use Rattle.fx_program.specs.declared.words.Settings.{Settings}
use Rattle.fx_program.specs.declared.words.Settings.TheVariants.{Plan}
use Rattle.fx_program.specs.declared.word_fault.WordFault.{WordFault}
use Rattle.fx_program.proofs.Statuses.{greatest_in_order}

module _ (text : List ℕ) where
  -- a part that is found is one of the text
  found_first : (test : Part → Bool) (p : Part) (parts : List Part) (part : Part) (c : Bool)
      → (find test parts ≡ Some part → Contains parts part)
      → (if c then Some p else find test parts) ≡ Some part
      → Contains (p ∷ parts) part
  found_first test p parts part true later e =
      subst (Contains (p ∷ parts)) (same_Some p part e)
      (All-head (Contains (p ∷ parts)) p parts (All-contains_itself (p ∷ parts)))
  found_first test p parts part false later e =
      All-contains (Contains (p ∷ parts)) parts part
      (All-tail (Contains (p ∷ parts)) p parts (All-contains_itself (p ∷ parts))) (later e)

  found_among : (test : Part → Bool) (parts : List Part) (part : Part) → find test parts ≡ Some part
      → Contains parts part
  found_among test [] part e = absurd (cc e)
  found_among test (p ∷ parts) part e = found_first test p parts part (test p) (found_among test parts part) e

  -- what is made of a step is its own and the matrix of the rules of the part
  by_rules : (part : Part) (step : Meaning) (read : Result MatrixView RulesFault) (one : RuledView)
      → Contains (parts_of text) part
      → matrix_of_rules (shape_given step) step.factors (slice_range text part.at part.end) ≡ read
      → ruled_by text part.at step read ≡ Ok one
      → IsOfItsRules text one
  by_rules part step (Ok matrix) one among is e =
      IfOk-at_ok (IsOfItsRules text) e (record { part = part; among = among; read = is })
  by_rules part step (Err wrong) one among is e = absurd (cc e)

  by_part : (start : ℕ) (step : Meaning) (found : Option Part) (one : RuledView)
      → ((part : Part) → found ≡ Some part → Contains (parts_of text) part)
      → ruled_in text start step found ≡ Ok one
      → IsOfItsRules text one
  by_part start step None one among e = absurd (cc e)
  by_part start step (Some part) one among e = by_kind (is_searched step.settings) refl
    where
      by_kind : (b : Bool) → is_searched step.settings ≡ b → IsOfItsRules text one
      by_kind true is = absurd (cc (rw is at e))
      by_kind false is = by_rules part step _ one (among part refl) refl (rw is at e)

  one_more : (starts : List ℕ) (done all : List RuledView) (step : Meaning) (steps : List Meaning)
      (r : Result RuledView PlanFault)
      → ruled text (parts_of text) (slice_index starts (length done)) step ≡ r
      → All (IsOfItsRules text) done
      → ((one : RuledView) → All (IsOfItsRules text) (done ++ one ∷ [])
      → all_ruled text (parts_of text) starts (done ++ one ∷ []) steps ≡ Ok all → All (IsOfItsRules text) all)
      → and_then r (λ one. all_ruled text (parts_of text) starts (done ++ one ∷ []) steps) ≡ Ok all
      → All (IsOfItsRules text) all
  one_more starts done all step steps (Ok one) is before more left =
      more one
      (All-append (IsOfItsRules text) done (one ∷ []) before
      (All-cons (IsOfItsRules text) one [] (by_part _ step _ one (found_among _ (parts_of text)) is)
      (All-nil (IsOfItsRules text)))) left
  one_more starts done all step steps (Err wrong) is before more left = absurd (cc left)

  each_ruled : (starts : List ℕ) (done all : List RuledView) (steps : List Meaning)
      → All (IsOfItsRules text) done
      → all_ruled text (parts_of text) starts done steps ≡ Ok all
      → All (IsOfItsRules text) all
  each_ruled starts done all [] before e = IfOk-at_ok (All (IsOfItsRules text)) e before
  each_ruled starts done all (step ∷ steps) before e =
      one_more starts done all step steps _ refl before
      (λ one longer left. each_ruled starts (done ++ one ∷ []) all steps longer left) e

  none_idle : (found : Option Part) (given all : List RuledView) → or_idle text found given ≡ Ok all → given ≡ all
  none_idle None given all e = IfOk-at_ok (λ x. given ≡ x) e refl
  none_idle (Some part) given all e = absurd (cc e)

  each_of_steps : (starts : List ℕ) (all : List RuledView) (steps : List Meaning)
      → ruled_steps text (parts_of text) starts steps ≡ Ok all
      → All (IsOfItsRules text) all
  each_of_steps starts all steps e = by_given (all_ruled text (parts_of text) starts [] steps) refl e
    where
      by_given : (r : Result (List RuledView) PlanFault) → all_ruled text (parts_of text) starts [] steps ≡ r
          → and_then r (or_idle text (idle_part (parts_of text) starts)) ≡ Ok all
          → All (IsOfItsRules text) all
      by_given (Ok given) is left =
          subst (All (IsOfItsRules text)) (none_idle _ given all left)
          (each_ruled starts [] given steps (All-nil (IsOfItsRules text)) is)
      by_given (Err wrong) is left = absurd (cc left)

  each_planned : (all : List RuledView) → planned_in text ≡ Ok all → All (IsOfItsRules text) all
  unfolding planned_in
  each_planned all e = by_program (program_in (blanked text (parts_of text))) e
    where
      by_program : (program : Result (List Meaning) TextFault)
          → planned_by text (parts_of text) (step_starts (blanked text (parts_of text))) program ≡ Ok all
          → All (IsOfItsRules text) all
      by_program (Ok steps) left = each_of_steps _ all steps left
      by_program (Err wrong) left = absurd (cc left)

  -- what a text gives with a status below that of a refusal
  is_planned : (seed status : ℕ) (read : Result (List RuledView) PlanFault) → planned_in text ≡ read
      → status ≡ (planned_output seed read).status → status < 3
      → IsPlanned text status
  is_planned seed status (Ok steps) is same low = record {
    steps = steps;
    read = is;
    each = each_planned steps is;
    status_is =
        subst (λ n. IsGreatest (λ one. met_status (met_by one)) n steps) (sym same)
        (greatest_in_order (given_output seed) asked_given (λ one. met_status (met_by one))
        (λ number earlier one. refl) steps);
  }
  is_planned seed status (Err wrong) is same low = absurd (omega (arith, same, low))

-- where the command `plan` ends
pub planned : {asked : Result Settings WordFault} {old new : Outside} {ended : Result ℕ Stop} (seed : ℕ)
    → asked ≡ Ok (Plan seed)
    → IsCarriedOut (command_for asked) old new ended → exit_status ended < 3
    → (text : List ℕ) → old.source.left ≡ Some text
    → IsPlanned text (exit_status ended)
planned {asked} {old} {new} {ended} seed is done low text left =
    let own = subst (λ (a : Result Settings WordFault). IsCarriedOut (command_for a) old new ended) is done in
    let same : text ≡ own.text = own.exposed refl text left in
    is_planned text seed (exit_status ended) _ refl
    (own.ends.gives.same (omega (arith, low)) ∙ ap (λ (o : Output). o.status) own.given
    ∙ ap (λ t. (planned_output seed (planned_in t)).status) (sym same)) low
