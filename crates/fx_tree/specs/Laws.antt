-- Laws on jobs and lots.
use Rattle.std.specs.Prelude.{ℕ, ◌≡◌, ◌+◌, ◌||◌, true, false, List, ◌++◌, filter, length}
use Rattle.fx_designs.specs.Problems.{Problem}
use Rattle.fx_designs.specs.Canonical.{is_canonical}
use Rattle.fx_designs.specs.Patterns.{pattern_of, is_less}
use Rattle.fx_designs.specs.Answers.{answer, before, is_design}
use Rattle.fx_designs.specs.Nodes.{nodes, lot_of, is_branch, is_not_after}
use Rattle.fx_designs.specs.Jobs.{is_of_job, nodes_inside}

-- a job: a canonical prefix of m + 2 rows whose lot is a branch
pub record IsJob (p : Problem) (job : List ℕ) : Type 0 where
  pub rows : length job ≡ p.dimensions.m + 2
  pub canonical : is_canonical p.dimensions p.requirement job ≡ true
  pub lot : is_branch p (lot_of p.dimensions job) ≡ true

-- The nodes inside a job are the problem's nodes in it, where a least pattern is asked; else where the answer is not
-- before the job.
abbrev pub NodesOfJob : Problem → Type 0
NodesOfJob p = (job : List ℕ)
    → IsJob p job
    → (p.least || is_not_after (answer p) job) ≡ true
    → filter (is_of_job p.dimensions job) (nodes p) ≡ nodes_inside p job

-- the pattern of a prefix that extends another is not less than that of the other
abbrev pub PatternsGrow : Problem → Type 0
PatternsGrow p =
    (rows more : List ℕ) → is_less (pattern_of p.dimensions (rows ++ more)) (pattern_of p.dimensions rows) ≡ false

-- a design of which no other has a less pattern, and before which no other has as little
pub record IsFirstOfLeastPattern (p : Problem) (rows : List ℕ) : Type 0 where
  pub design : is_design p rows ≡ true
  pub least : (other : List ℕ) → is_design p other ≡ true
      → is_less (pattern_of p.dimensions other) (pattern_of p.dimensions rows) ≡ false
  pub first : (other : List ℕ) → is_design p other ≡ true → before other rows ≡ true
      → is_less (pattern_of p.dimensions rows) (pattern_of p.dimensions other) ≡ true
