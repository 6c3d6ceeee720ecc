-- The rules of a design that `run` gives are read, by `plan`, as this design.
use Rattle.std.proofs.Common.{ℕ, ◌≡◌, ◌∙◌, ◌+◌, true, false, List, [], ◌∷◌, map, Some, Result, Ok, Err, length}
use Rattle.std.proofs.Common.{refl}
use Rattle.std.proofs.Common.{ap, subst, arith}
use Rattle.std.specs.Prelude.{slice_range}
use Rattle.std.specs.List.{AllByRecursion}
use Rattle.std.proofs.lemmas.Bool.{eq-eqb}
use Rattle.std.proofs.lemmas.List.Elements.{All-from_recursion, All-head, recursion_from_All}
use Rattle.fx_designs.specs.Canonical.{is_canonical}
use Rattle.fx_designs.specs.Problems.{Dimensions, Requirement}
use Rattle.fx_laws.proofs.CanonicalTest.{canonical_decides}
use Rattle.fx_laws.proofs.Tables.{is_order-field}
use Rattle.fx_vectors.specs.Matrix.{MatrixView}
use Rattle.fx_settings.specs.declared.settings.Blocks.{Blocks}
use Rattle.fx_settings.specs.declared.settings.Blocks.TheVariants as blocks
use Rattle.fx_settings.specs.declared.settings.Size.{Size}
use Rattle.fx_settings.specs.declared.settings.Size.TheVariants.{Runs, Minimum}
use Rattle.fx_settings.specs.Valid.{has_most}
use Rattle.fx_statements.specs.Questions.{block_factors, outcome_of, run_factors}
use Rattle.fx_statements.specs.Steps.{Meaning}
use Rattle.fx_alias.specs.Rules.{rules_section}
use Rattle.fx_answer.specs.StepClaims.{Allows, rows_in}
use Rattle.fx_answer.specs.ValidSteps.{IsValidStep}
use Rattle.fx_answer.proofs.Best.{what_it_asks}
use Rattle.fx_rules.specs.Laws.{AreFactors, IsGiven}
use Rattle.fx_rules.specs.Parts.{blanked, parts_of}
use Rattle.fx_rules.specs.Reading.{matrix_of_rules}
use Rattle.fx_rules.specs.declared.parts.Part.{Part}
use Rattle.fx_rules.proofs.Stepping.{canonical_stepped}
use Rattle.fx_rules.proofs.WayBack.{way_back}
use Rattle.fx_program.specs.Claims.{EachStep}
use Rattle.fx_program.specs.Planning.{RuledView, dimensions_given, is_minimum, is_searched, planned_in}
use Rattle.fx_program.specs.Planning.{ruled_steps, shape_given}
use Rattle.fx_program.specs.Texts.{program_in}
use Rattle.fx_program.specs.declared.plan_fault.PlanFault.{PlanFault}
use Rattle.fx_program.specs.declared.text.TextFault.{TextFault}
use Rattle.fx_program.proofs.AnyText.{any_text}
use Rattle.fx_program_laws.specs.GivenDesigns.{EachRuled, HasGivenDesign}
use Rattle.fx_program_laws.specs.ReadBack.{IsBehindItsRules, IsGivenBack, IsPlain, IsReadBack}
use Rattle.fx_program_laws.proofs.GivenDesigns.{given_designs, neither, shaped}
use Rattle.fx_program_laws.proofs.Listed.{of_ending}
use Rattle.fx_program_laws.proofs.PlannedSteps.{are_planned}
use Rattle.fx_program_laws.proofs.PrintedRules.{canonical_listed}
use Rattle.fx_program_laws.proofs.StepCounts.{AreSteps, HasFactors, steps_of_text}

-- where nothing is left to a search, each question is of the same dimensions
same_runs : (size : Size) (m n : ℕ) → is_minimum size ≡ false → run_factors size m ≡ run_factors size n
same_runs (Runs k) m n e = refl
same_runs Minimum m n e = cc e

same_blocks : (given : Blocks) (m j k : ℕ) → has_most given ≡ false → block_factors given m j ≡ block_factors given m k
same_blocks blocks.Without m j k e = refl
same_blocks (blocks.Factors t) m j k e = refl
same_blocks (blocks.PerBlock n) m j k e = refl
same_blocks blocks.Most m j k e = cc e

abbrev dims : ℕ → ℕ → ℕ → ℕ → Dimensions
dims q m s t = record { q = q; m = m; s = s; t = t }

one_size : (step : Meaning) (d : Dimensions) → is_searched step.settings ≡ false → Allows step d
    → d ≡ dimensions_given step
one_size step d fixed allowed =
    let both = neither (has_most step.settings.blocks) (is_minimum step.settings.size)
    (neither step.settings.least _ fixed).1 in
    let runs : d.m ≡ run_factors step.settings.size 3 =
    cc (same_runs step.settings.size d.m 3 both.1) in
    let given : d.t ≡ block_factors step.settings.blocks (run_factors step.settings.size 3) 3 =
    cc (allowed.blocks, runs, same_blocks step.settings.blocks (run_factors step.settings.size 3) d.t 3 both.0) in
    ap (λ q. dims q d.m d.s d.t) allowed.levels
    ∙ ap (λ m. dims step.settings.q m d.s d.t) runs
    ∙ ap (λ s. dims step.settings.q (run_factors step.settings.size 3) s d.t) allowed.factors
    ∙ ap (dims step.settings.q (run_factors step.settings.size 3) (length step.factors)) given

-- a canonical matrix can be given by rules
canonical_given : (step : Meaning) (rows : List ℕ) (wanted : Requirement) → IsValidStep step
    → is_searched step.settings ≡ false → length rows ≡ (dimensions_given step).s + (dimensions_given step).t
    → is_canonical (dimensions_given step) wanted rows ≡ true → IsGiven (shape_given step) rows
canonical_given step rows wanted valid fixed whole can =
    let d = dimensions_given step in
    let shape = shaped step valid fixed in
    let f = is_order-field d.q shape.order in
    record {
      matrix = record {
        shaped = shape;
        len = omega arith;
        below = recursion_from_All _ rows ((canonical_decides d f rows wanted).0 can).below;
      };
      whole = whole;
      stepped = canonical_stepped d wanted f [] rows can;
    }

-- the names of its factors
factors_are : (step : Meaning) → HasFactors step → IsPlain step → AreFactors (shape_given step) step.factors
factors_are step own plain = record {
  count = refl;
  names = own.names;
  distinct = own.distinct;
  no_none = plain.no_none;
  no_run = plain.no_run;
  no_zero = plain.no_zero;
}

read_back : (step : Meaning) → IsValidStep step → HasFactors step → IsReadBack step
read_back step valid own plain matrix e =
    of_ending Back (outcome_of step).dimensions (outcome_of step).ending matrix back e
  where
    Back : Dimensions → List ℕ → Type 0
    Back d rows =
        matrix_of_rules (shape_given step) step.factors (rules_section d step.factors rows)
        ≡ Ok (record { shape = record { q = d.q; m = d.m; s = d.s; t = d.t }; rows = rows })

    back : (rows : List ℕ) → rows_in (outcome_of step).ending ≡ Some rows → Back (outcome_of step).dimensions rows
    back rows is =
        let d = (outcome_of step).dimensions in
        let asked = what_it_asks step valid rows is in
        let same = one_size step d plain.fixed asked.allowed in
        let listed = canonical_listed step rows is in
        let can = rw same at listed.1 in
        let whole = rw same at asked.whole in
        rw same (way_back _ step.factors rows (factors_are step own plain)
        (canonical_given step rows listed.0 valid plain.fixed whole can))

each_back : (steps : List Meaning) → AllByRecursion IsValidStep steps → AllByRecursion HasFactors steps
    → AllByRecursion IsReadBack steps
each_back [] valid own = tt
each_back (step ∷ steps) valid own = (read_back step valid.0 own.0, each_back steps valid.1 own.1)

of_program : (program : Result (List Meaning) TextFault) → EachStep IsValidStep program
    → ((steps : List Meaning) → program ≡ Ok steps → AreSteps steps) → EachStep IsReadBack program
of_program (Ok steps) valid are =
    All-from_recursion IsReadBack steps
    (each_back steps (recursion_from_All IsValidStep steps valid) (are steps refl).factors)
of_program (Err fault) valid are = tt

pub listed_back : (text : List ℕ) → EachStep IsReadBack (program_in text)
listed_back text =
    of_program _ (any_text IsValidStep (λ step valid. valid) text) (steps_of_text text)

-- what `plan` lists
given_back : (one : RuledView) → HasGivenDesign one → HasFactors one.step → IsGivenBack one
given_back one design own plain =
    let rows = one.matrix.rows in
    rw design.of_rules.shape_is
    (way_back _ one.step.factors rows (factors_are one.step own plain) design.of_rules.given)

each_given_back : (all : List RuledView) → AllByRecursion HasGivenDesign all
    → AllByRecursion HasFactors (map (λ (one : RuledView). one.step) all) → AllByRecursion IsGivenBack all
each_given_back [] designs own = tt
each_given_back (one ∷ all) designs own = (given_back one designs.0 own.0, each_given_back all designs.1 own.1)

of_plan : (text : List ℕ) (plan : Result (List RuledView) PlanFault) → planned_in text ≡ plan
    → EachRuled HasGivenDesign plan → EachRuled IsGivenBack plan
of_plan text (Ok all) is designs =
    All-from_recursion IsGivenBack all
    (each_given_back all (recursion_from_All HasGivenDesign all designs)
    (steps_of_text _ (map (λ one. one.step) all) (are_planned text all is).program).factors)
of_plan text (Err wrong) is designs = tt

pub planned_rules_back : (text : List ℕ) → EachRuled IsGivenBack (planned_in text)
planned_rules_back text = of_plan text _ refl (given_designs text)

-- ---- a text of one step behind its rules

-- one step with its own part
ruled_one : (text : List ℕ) (p : Part) (step : Meaning) (matrix : MatrixView) → is_searched step.settings ≡ false
    → matrix_of_rules (shape_given step) step.factors (slice_range text p.at p.end) ≡ Ok matrix
    → ruled_steps text (p ∷ []) (p.step ∷ []) (step ∷ []) ≡ Ok (record { step = step; matrix = matrix } ∷ [])
ruled_one text p step matrix fixed read =
    rw (eq-eqb p.step p.step refl, fixed, read)

pub planned_back : (text : List ℕ) (step : Meaning) (matrix : MatrixView) → IsBehindItsRules text step matrix
    → planned_in text ≡ Ok (record { step = step; matrix = matrix } ∷ [])
unfolding planned_in
planned_back text step matrix h =
    let back : IsReadBack step =
    All-head IsReadBack step [] (subst (EachStep IsReadBack) h.program (listed_back (blanked text (parts_of text)))) in
    cc (ruled_one text h.part step matrix h.plain.fixed (cc (back h.plain matrix h.listed)))
