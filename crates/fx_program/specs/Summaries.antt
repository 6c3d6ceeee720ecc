-- The summary of a program: how many steps end in which way, and their nodes together.
use Rattle.std.specs.Prelude.{ℕ, Bool, true, false, List, ◌++◌, length, codes, decimal, count_by, sum_by}
use Rattle.fx_designs.specs.Outcomes.{Ending, Design, NoDesign, BudgetEnded}

-- with a design
abbrev pub has_design : Ending → Bool
has_design (Design rows count) = true
has_design (NoDesign count) = false
has_design (BudgetEnded left budget) = false

-- without one
abbrev pub is_without : Ending → Bool
is_without (Design rows count) = false
is_without (NoDesign count) = true
is_without (BudgetEnded left budget) = false

-- with the budget's end
abbrev pub is_cut_short : Ending → Bool
is_cut_short (Design rows count) = false
is_cut_short (NoDesign count) = false
is_cut_short (BudgetEnded left budget) = true

-- the nodes of an outcome, which are the budget where it ended
abbrev pub nodes_spent : Ending → ℕ
nodes_spent (Design rows count) = count
nodes_spent (NoDesign count) = count
nodes_spent (BudgetEnded left budget) = budget

-- a line of a word and a number
abbrev pub counted : List ℕ → ℕ → List ℕ
counted word n = word ++ (codes " " ++ (decimal n ++ codes "\n"))

-- the five lines by their numbers
abbrev pub five_lines : ℕ → ℕ → ℕ → ℕ → ℕ → List ℕ
five_lines steps designs without cut_short nodes =
    counted (codes "steps") steps
    ++ (counted (codes "designs") designs
    ++ (counted (codes "none") without
    ++ (counted (codes "ended") cut_short
    ++ counted (codes "nodes") nodes)))

-- the summary of steps that end so
abbrev pub summary_lines : List Ending → List ℕ
summary_lines endings =
    five_lines (length endings) (count_by has_design endings) (count_by is_without endings)
    (count_by is_cut_short endings) (sum_by nodes_spent endings)
