use Rattle.std.proofs.Common.{◌≡◌, ◌∙◌, ◌++◌, [], ◌∷◌, ℕ, List, None, true, false, refl, subst, sym, ap}
use Rattle.fx_designs.specs.Galois.{prime_of, degree_of, reduction_of, add, mul, neg, inv}
use Rattle.fx_designs.specs.Runs.{runs_of, is_constant}
use Rattle.fx_designs.specs.Spans.{in_span}
use Rattle.fx_designs.specs.Problems.{Problem, ForEffects}
use Rattle.fx_designs.specs.Demands.{must_balance, is_allowed}
use Rattle.fx_designs.specs.Patterns.{constant_words, pattern_of}
use Rattle.fx_designs.specs.Canonical.{is_canonical}
use Rattle.fx_designs.specs.Answers.{lists}
use Rattle.fx_designs.specs.Nodes.{is_branch, lot_of}
use Rattle.fx_designs.specs.Jobs.{first_least, best_before}
use Rattle.fx_vectors.specs.Matrix.{MatrixView}
use Rattle.search_tests.proofs.job.a_job_ends_at_its_design_or_its_limit_or_is_cut.Goals as goal
use Rattle.search_tests.proofs.job.a_job_ends_at_its_design_or_its_limit_or_is_cut.Given as given

abbrev posed : Problem
posed = record
    { dimensions = record { q = 2; m = 1; s = 4; t = 0 }; requirement = ForEffects (3 ∷ []) []; least = false }

abbrev job : List ℕ
job = 1 ∷ 0 ∷ 1 ∷ []

facts : (is_canonical posed.dimensions posed.requirement job ≡ true)
    × (is_branch posed (lot_of posed.dimensions job) ≡ true) × (None ≡ best_before posed job)
unfolding prime_of degree_of reduction_of add mul neg inv runs_of is_constant in_span must_balance is_allowed
    constant_words pattern_of is_canonical lists first_least best_before
facts = (refl, refl, refl)

rows_are : (g : given.Over) (c : goal.After-cutter-1 g) → c.push-3.new.self.rows ≡ job
rows_are g c =
    ap (λ (x : MatrixView). x.rows) c.push-3.ensures
    ∙ ap (λ (x : MatrixView). x.rows ++ 1 ∷ []) c.push-2.ensures
    ∙ ap (λ (x : MatrixView). (x.rows ++ 0 ∷ []) ++ 1 ∷ []) c.push.ensures
    ∙ ap (λ (x : MatrixView). ((x.rows ++ 1 ∷ []) ++ 0 ∷ []) ++ 1 ∷ []) c.new-job.ensures

pub loop-limit-init : goal.loop-limit-init
loop-limit-init g c = tt

pub loop-limit-preserved : goal.loop-limit-preserved
loop-limit-preserved g c = tt

pub run_job-requires-clause-canonical : goal.run_job-requires-clause-canonical
run_job-requires-clause-canonical g c =
    subst (λ (p : Problem). is_canonical p.dimensions p.requirement c.push-3.new.self.rows ≡ true)
    (sym c.in_ok-question.ensures.problem)
    (subst (λ (v : List ℕ). is_canonical posed.dimensions posed.requirement v ≡ true) (sym (rows_are g c)) facts.0)

pub run_job-requires-clause-lot : goal.run_job-requires-clause-lot
run_job-requires-clause-lot g c =
    subst (λ (p : Problem). is_branch p (lot_of p.dimensions c.push-3.new.self.rows) ≡ true)
    (sym c.in_ok-question.ensures.problem)
    (subst (λ (v : List ℕ). is_branch posed (lot_of posed.dimensions v) ≡ true) (sym (rows_are g c)) facts.1)

pub run_job-requires-clause-best : goal.run_job-requires-clause-best
run_job-requires-clause-best g c =
    subst (λ (p : Problem). None ≡ best_before p c.push-3.new.self.rows) (sym c.in_ok-question.ensures.problem)
    (subst (λ (v : List ℕ). None ≡ best_before posed v) (sym (rows_are g c)) facts.2)
