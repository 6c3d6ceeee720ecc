-- The definitions of lots and jobs, computed on small designs.
use Rattle.std.proofs.Common.{◌≡◌, true, false, [], ◌∷◌, Some, None, refl}
use Rattle.fx_designs.specs.Galois.{prime_of, degree_of, reduction_of, add, mul, neg, inv}
use Rattle.fx_designs.specs.Runs.{runs_of, is_constant}
use Rattle.fx_designs.specs.Spans.{in_span}
use Rattle.fx_designs.specs.Problems.{ForEffects, Problem}
use Rattle.fx_designs.specs.Demands.{must_balance, is_allowed}
use Rattle.fx_designs.specs.Patterns.{constant_words, pattern_of}
use Rattle.fx_designs.specs.Canonical.{is_canonical}
use Rattle.fx_designs.specs.Answers.{lists, designs, answer}
use Rattle.fx_designs.specs.Closing.{closing_word}
use Rattle.fx_designs.specs.Nodes.{nodes, marks, word_of, Branch, Word, Worse}
use Rattle.fx_designs.specs.Jobs.{is_of_earlier_lot, nodes_inside, marks_inside, first_inside, first_least, best_of}
use Rattle.fx_designs.specs.Jobs.{is_of_job, best_before, best_inside, best_through, carried, nodes_of_lot}
use Rattle.fx_designs.specs.Jobs.{first_of_lot}
use Rattle.fx_designs.proofs.Examples.{size, problem}

-- A*B of four factors in two runs: A or B is at one level; the lots are C's, the jobs D's
abbrev halves : Problem
halves = problem (size 2 1 4 0) (ForEffects (3 ∷ []) []) true

-- the same without a least pattern
abbrev first_of_halves : Problem
first_of_halves = problem (size 2 1 4 0) (ForEffects (3 ∷ []) []) false

-- a matrix of another job does not count: 1 0 0 is a branch though 1 0 1 1 is better; one of an earlier lot does
marks_of_jobs :
    (marks halves
    ≡ Branch 1 ∷ Word 1 3 ∷ Branch 0 ∷ Branch 1 ∷ Worse 1 ∷ Worse 0 ∷ Branch 0 ∷ Worse 1 ∷ Worse 0 ∷ Branch 0
    ∷ Branch 1 ∷ Branch 1 ∷ Worse 1 ∷ Worse 0 ∷ Worse 0 ∷ Word 0 3 ∷ [])
    × (marks_inside halves (1 ∷ 0 ∷ 0 ∷ []) ≡ Branch 0 ∷ Worse 1 ∷ Worse 0 ∷ [])
    × (marks_inside halves (0 ∷ 1 ∷ 0 ∷ []) ≡ Worse 0 ∷ [])
    × (nodes_inside halves (0 ∷ 1 ∷ 1 ∷ []) ≡ (0 ∷ 1 ∷ 1 ∷ []) ∷ (0 ∷ 1 ∷ 1 ∷ 1 ∷ []) ∷ (0 ∷ 1 ∷ 1 ∷ 0 ∷ []) ∷ [])
unfolding prime_of degree_of reduction_of add mul neg inv runs_of is_constant in_span must_balance is_allowed
    constant_words pattern_of is_canonical lists closing_word word_of nodes marks nodes_inside marks_inside
marks_of_jobs = (refl, refl, refl, refl)

-- without a least pattern the nodes inside a job end with its first design, also where it stands after the answer
jobs_with_a_design :
    (nodes_inside first_of_halves (1 ∷ 0 ∷ 1 ∷ []) ≡ (1 ∷ 0 ∷ 1 ∷ []) ∷ (1 ∷ 0 ∷ 1 ∷ 1 ∷ []) ∷ [])
    × (nodes_inside first_of_halves (1 ∷ 0 ∷ 0 ∷ []) ≡ (1 ∷ 0 ∷ 0 ∷ []) ∷ (1 ∷ 0 ∷ 0 ∷ 1 ∷ []) ∷ [])
    × (first_inside first_of_halves (1 ∷ 0 ∷ 0 ∷ []) ≡ Some (1 ∷ 0 ∷ 0 ∷ 1 ∷ []))
    × (best_inside first_of_halves (1 ∷ 0 ∷ 1 ∷ []) ≡ None)
    × (carried first_of_halves 4 ≡ None)
unfolding prime_of degree_of reduction_of add mul neg inv runs_of is_constant in_span must_balance is_allowed
    constant_words pattern_of is_canonical lists designs answer nodes nodes_inside first_inside first_least best_before
    best_inside carried
jobs_with_a_design = (refl, refl, refl, refl, refl)

-- a job that is worked off beside a better one has a best of its own; one with the same pattern as an earlier lot has
-- none
bests_of_jobs :
    (best_inside halves (1 ∷ 0 ∷ 1 ∷ []) ≡ Some (1 ∷ 0 ∷ 1 ∷ 1 ∷ []))
    × (best_inside halves (1 ∷ 0 ∷ 0 ∷ []) ≡ Some (1 ∷ 0 ∷ 0 ∷ 1 ∷ []))
    × (best_of halves (is_of_job halves.dimensions (0 ∷ 1 ∷ 1 ∷ [])) ≡ Some (0 ∷ 1 ∷ 1 ∷ 1 ∷ []))
    × (best_inside halves (0 ∷ 1 ∷ 1 ∷ []) ≡ None)
    × (best_before halves (1 ∷ 0 ∷ 1 ∷ []) ≡ None)
    × (best_before halves (0 ∷ 1 ∷ 1 ∷ []) ≡ Some (1 ∷ 0 ∷ 1 ∷ 1 ∷ []))
unfolding prime_of degree_of reduction_of add mul neg inv runs_of is_constant in_span must_balance is_allowed
    constant_words pattern_of is_canonical lists first_least best_before best_inside
bests_of_jobs = (refl, refl, refl, refl, refl, refl)

-- a budget that ends in the first lot leaves nothing, also past that lot's best; one that ends at the next lot's first
-- prefix, or in that lot, leaves the best of the first
matrices_of_ended_budgets :
    (carried halves 5 ≡ None)
    × (carried halves 8 ≡ None)
    × (carried halves 9 ≡ Some (1 ∷ 0 ∷ 1 ∷ 1 ∷ []))
    × (carried halves 15 ≡ Some (1 ∷ 0 ∷ 1 ∷ 1 ∷ []))
unfolding prime_of degree_of reduction_of add mul neg inv runs_of is_constant in_span must_balance is_allowed
    constant_words pattern_of is_canonical lists nodes first_least best_before carried
matrices_of_ended_budgets = (refl, refl, refl, refl)

-- the nodes in the jobs of a lot, without the lot itself; its first design, and the best up to it, of two that tie the
-- first
nodes_and_bests_of_lots :
    (nodes_of_lot halves (0 ∷ 1 ∷ [])
    ≡ (0 ∷ 1 ∷ 1 ∷ []) ∷ (0 ∷ 1 ∷ 1 ∷ 1 ∷ []) ∷ (0 ∷ 1 ∷ 1 ∷ 0 ∷ []) ∷ (0 ∷ 1 ∷ 0 ∷ []) ∷ [])
    × (first_of_lot halves (0 ∷ 1 ∷ []) ≡ Some (0 ∷ 1 ∷ 1 ∷ 1 ∷ []))
    × (best_through halves (0 ∷ 1 ∷ []) ≡ Some (1 ∷ 0 ∷ 1 ∷ 1 ∷ []))
    × (best_through halves (1 ∷ 0 ∷ []) ≡ Some (1 ∷ 0 ∷ 1 ∷ 1 ∷ []))
unfolding prime_of degree_of reduction_of add mul neg inv runs_of is_constant in_span must_balance is_allowed
    constant_words pattern_of is_canonical lists nodes nodes_of_lot first_of_lot first_least best_through
nodes_and_bests_of_lots = (refl, refl, refl, refl)

-- of designs that tie the first is the best
first_of_ties :
    first_least (size 2 2 5 0) ((1 ∷ 2 ∷ 3 ∷ 3 ∷ 3 ∷ []) ∷ (1 ∷ 2 ∷ 3 ∷ 3 ∷ 2 ∷ []) ∷ (1 ∷ 2 ∷ 3 ∷ 3 ∷ 1 ∷ []) ∷ [])
    ≡ Some (1 ∷ 2 ∷ 3 ∷ 3 ∷ 2 ∷ [])
unfolding prime_of degree_of reduction_of add mul neg inv runs_of is_constant constant_words pattern_of first_least
first_of_ties = refl

-- lots are of one row more than run indexes; a matrix of the same lot is of no earlier one, and a short matrix has none
earlier_lots :
    (is_of_earlier_lot (size 2 1 4 0) (1 ∷ 0 ∷ 0 ∷ []) (1 ∷ 0 ∷ 1 ∷ 1 ∷ []) ≡ false)
    × (is_of_earlier_lot (size 2 1 4 0) (0 ∷ []) (1 ∷ 0 ∷ 1 ∷ 1 ∷ []) ≡ true)
    × (is_of_earlier_lot (size 2 1 4 0) (1 ∷ []) (1 ∷ 0 ∷ 1 ∷ 1 ∷ []) ≡ false)
    × (is_of_earlier_lot (size 2 3 3 0) (1 ∷ 2 ∷ 3 ∷ []) (1 ∷ 2 ∷ 4 ∷ []) ≡ false)
earlier_lots = (refl, refl, refl, refl)
