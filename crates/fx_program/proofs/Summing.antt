-- The summary of a program, step by step.
use Rattle.std.proofs.Common.{ℕ, Bool, ◌≡◌, ◌≤◌, ◌<◌, ◌+◌, ◌^◌, List, [], ◌∷◌, ◌++◌, length, Ok, Err, Result, refl, sym}
use Rattle.std.proofs.Common.{ap, ap₂, ◌∙◌, arith, cond}
use Rattle.std.specs.Prelude.{count_by, sum_by}
use Rattle.std.proofs.lemmas.List.{map-append, length-map}
use Rattle.std.proofs.lemmas.List.Sums.{count_by-le-length, fold-append, sum_by_push}
use Rattle.fx_base.specs.Acts.{Event}
use Rattle.fx_designs.specs.Outcomes.{Ending, Design, NoDesign, BudgetEnded}
use Rattle.fx_statements.specs.Steps.{Meaning}
use Rattle.fx_statements.specs.Questions.{outcome_of}
use Rattle.fx_program.specs.declared.text.TextFault.{TextFault}
use Rattle.fx_program.specs.declared.summary.Summary.{Summary}
use Rattle.fx_program.specs.Statuses.{status_of}
use Rattle.fx_program.specs.Summaries.{five_lines, is_cut_short, has_design, is_without, nodes_spent, summary_lines}
use Rattle.fx_program.specs.Output.{asked_of, endings_of, large_output, message, program_output, step_output}
use Rattle.fx_program.specs.Output.{steps_output, worse}
use Rattle.fx_program.specs.Plans.{AskedView}
use Rattle.fx_program.proofs.SoFar.{worse_low}
use Rattle.fx_program.specs.Summed.{HasRoom, IsSummaryOf, with_ending}

-- one ending more
count_more : (p : Ending → Bool) (endings : List Ending) (ending : Ending)
    → count_by p (endings ++ ending ∷ []) ≡ count_by p endings + cond (p ending) 1 0
count_more p endings ending = fold-append (λ (n : ℕ) (x : Ending). n + cond (p x) 1 0) 0 endings (ending ∷ [])

-- one step more
status_more : (seed number : ℕ) (earlier : List AskedView) (events : List Event) (status : ℕ) (steps : List Meaning) (step : Meaning)
    → (steps_output seed number earlier events status (steps ++ step ∷ [])).status
    ≡ worse (steps_output seed number earlier events status steps).status (status_of (outcome_of step).ending)
status_more seed number earlier events status [] step = refl
status_more seed number earlier events status (first ∷ steps) step =
    let given = step_output seed number earlier first in
    status_more seed (number + 1) (earlier ++ asked_of first) (events ++ given.events) (worse status given.status) steps step

-- the summary of none
pub summary_of_none : IsSummaryOf [] (record { designs = 0; without = 0; cut_short = 0; nodes = 0; status = 0 })
summary_of_none = record { designs = refl; without = refl; cut_short = refl; nodes = refl; status = refl }

module _ (steps : List Meaning) (summary : Summary) (so_far : IsSummaryOf steps summary) (step : Meaning) where
  endings : endings_of (steps ++ step ∷ []) ≡ endings_of steps ++ (outcome_of step).ending ∷ []
  endings = map-append (λ (step : Meaning). (outcome_of step).ending) steps (step ∷ [])

  module _ (ending : Ending) (e : (outcome_of step).ending ≡ ending) where
    counts : (p : Ending → Bool)
        → count_by p (endings_of (steps ++ step ∷ [])) ≡ count_by p (endings_of steps) + cond (p ending) 1 0
    counts p =
        ap (count_by p) endings ∙ count_more p (endings_of steps) (outcome_of step).ending ∙ ap
        (λ (x : Ending). count_by p (endings_of steps) + cond (p x) 1 0) e

    sums : sum_by nodes_spent (endings_of (steps ++ step ∷ []))
        ≡ sum_by nodes_spent (endings_of steps) + nodes_spent ending
    sums = ap (sum_by nodes_spent) endings ∙ sum_by_push nodes_spent (endings_of steps) (outcome_of step).ending ∙ ap
        (λ (x : Ending). sum_by nodes_spent (endings_of steps) + nodes_spent x) e

    status_is : (program_output 0 (Ok (steps ++ step ∷ []))).status ≡ worse summary.status (status_of ending)
    status_is =
        status_more 0 1 [] [] 0 steps step
        ∙ ap (λ (n : ℕ). worse n (status_of (outcome_of step).ending)) (sym so_far.status)
        ∙ ap (λ (x : Ending). worse summary.status (status_of x)) e

  pub by_ending : (ending : Ending) → (outcome_of step).ending ≡ ending
      → IsSummaryOf (steps ++ step ∷ []) (with_ending summary ending)
  by_ending (Design rows count) e =
      let designs : count_by has_design (endings_of (steps ++ step ∷ [])) ≡ count_by has_design (endings_of steps) + 1 =
      counts (Design rows count) e has_design in
      let without : count_by is_without (endings_of (steps ++ step ∷ [])) ≡ count_by is_without (endings_of steps) + 0 =
      counts (Design rows count) e is_without in
      let cut_short : count_by is_cut_short (endings_of (steps ++ step ∷ []))
      ≡ count_by is_cut_short (endings_of steps) + 0 = counts (Design rows count) e is_cut_short in
      let nodes = sums (Design rows count) e in
      record {
        designs = omega (arith, designs, so_far.designs);
        without = omega (arith, without, so_far.without);
        cut_short = omega (arith, cut_short, so_far.cut_short);
        nodes = omega (arith, nodes, so_far.nodes);
        status = sym (status_is (Design rows count) e);
      }
  by_ending (NoDesign count) e =
      let designs : count_by has_design (endings_of (steps ++ step ∷ [])) ≡ count_by has_design (endings_of steps) + 0 =
      counts (NoDesign count) e has_design in
      let without : count_by is_without (endings_of (steps ++ step ∷ [])) ≡ count_by is_without (endings_of steps) + 1 =
      counts (NoDesign count) e is_without in
      let cut_short : count_by is_cut_short (endings_of (steps ++ step ∷ []))
      ≡ count_by is_cut_short (endings_of steps) + 0 = counts (NoDesign count) e is_cut_short in
      let nodes = sums (NoDesign count) e in
      record {
        designs = omega (arith, designs, so_far.designs);
        without = omega (arith, without, so_far.without);
        cut_short = omega (arith, cut_short, so_far.cut_short);
        nodes = omega (arith, nodes, so_far.nodes);
        status = sym (status_is (NoDesign count) e);
      }
  by_ending (BudgetEnded left budget) e =
      let designs : count_by has_design (endings_of (steps ++ step ∷ [])) ≡ count_by has_design (endings_of steps) + 0 =
      counts (BudgetEnded left budget) e has_design in
      let without : count_by is_without (endings_of (steps ++ step ∷ [])) ≡ count_by is_without (endings_of steps) + 0 =
      counts (BudgetEnded left budget) e is_without in
      let cut_short : count_by is_cut_short (endings_of (steps ++ step ∷ []))
      ≡ count_by is_cut_short (endings_of steps) + 1 = counts (BudgetEnded left budget) e is_cut_short in
      let nodes = sums (BudgetEnded left budget) e in
      record {
        designs = omega (arith, designs, so_far.designs);
        without = omega (arith, without, so_far.without);
        cut_short = omega (arith, cut_short, so_far.cut_short);
        nodes = omega (arith, nodes, so_far.nodes);
        status = sym (status_is (BudgetEnded left budget) e);
      }

-- its status is low
pub low_with : (summary : Summary) (ending : Ending) → summary.status < 4 → (with_ending summary ending).status < 4
low_with summary (Design rows count) low = worse_low summary.status 0 low (omega arith)
low_with summary (NoDesign count) low = worse_low summary.status 1 low (omega arith)
low_with summary (BudgetEnded left budget) low = worse_low summary.status 2 low (omega arith)

-- there is room where fewer than 2^64 steps were summed up
pub has_room : (steps : List Meaning) (summary : Summary) → IsSummaryOf steps summary → length steps + 1 < 2 ^ 64
    → summary.nodes + 2 ^ 64 ≤ 2 ^ 128 → HasRoom summary
has_room steps summary is few nodes =
    let long : length (endings_of steps) ≡ length steps =
    length-map steps (λ (step : Meaning). (outcome_of step).ending) in
    record {
      designs = omega (arith, count_by-le-length has_design (endings_of steps), is.designs, long);
      without = omega (arith, count_by-le-length is_without (endings_of steps), is.without, long);
      cut_short = omega (arith, count_by-le-length is_cut_short (endings_of steps), is.cut_short, long);
      nodes = nodes;
    }

-- what is given for `large` has the status of a run
pub large_status : (program : Result (List Meaning) TextFault)
    → (large_output program).status ≡ (program_output 0 program).status
large_status (Ok steps) = refl
large_status (Err fault) = refl

-- the lines of a summary
pub summed_up : (steps : List Meaning) (summary : Summary) (n : ℕ) (bytes : List ℕ) → IsSummaryOf steps summary
    → n ≡ length steps
    → bytes ≡ five_lines n summary.designs summary.without summary.cut_short summary.nodes
    → large_output (Ok steps) ≡ message bytes summary.status
summed_up steps summary n bytes is len lines =
    let long : n ≡ length (endings_of steps) =
    len ∙ sym (length-map steps (λ (step : Meaning). (outcome_of step).ending)) in
    let same : five_lines n summary.designs summary.without summary.cut_short summary.nodes
    ≡ summary_lines (endings_of steps) =
    ap (λ (k : ℕ). five_lines k summary.designs summary.without summary.cut_short summary.nodes) long
    ∙ ap₂ (λ (a b : ℕ). five_lines (length (endings_of steps)) a b summary.cut_short summary.nodes) is.designs
    is.without
    ∙ ap₂ (λ (a b : ℕ). five_lines (length (endings_of steps)) (count_by has_design (endings_of steps))
    (count_by is_without (endings_of steps)) a b) is.cut_short is.nodes in
    sym (ap₂ (λ (l : List ℕ) (s : ℕ). message l s) (lines ∙ same) is.status)
