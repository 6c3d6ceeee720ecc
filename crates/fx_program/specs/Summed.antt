-- What a summary of steps holds.
use Rattle.std.specs.Prelude.{◌≡◌, ◌+◌, ◌^◌, ◌<◌, ◌≤◌, List, Ok, count_by, sum_by}
use Rattle.fx_designs.specs.Outcomes.{Ending, Design, NoDesign, BudgetEnded}
use Rattle.fx_statements.specs.Steps.{Meaning}
use Rattle.fx_program.specs.Output.{endings_of, program_output, worse}
use Rattle.fx_program.specs.Summaries.{is_cut_short, has_design, is_without, nodes_spent}
use Rattle.fx_program.specs.declared.summary.Summary.{Summary}

-- the counts of the ways in which these steps end, their nodes together, and the status of a run
pub record IsSummaryOf (steps : List Meaning) (summary : Summary) : Type 0 where
  pub designs : summary.designs ≡ count_by has_design (endings_of steps)
  pub without : summary.without ≡ count_by is_without (endings_of steps)
  pub cut_short : summary.cut_short ≡ count_by is_cut_short (endings_of steps)
  pub nodes : summary.nodes ≡ sum_by nodes_spent (endings_of steps)
  pub status : summary.status ≡ (program_output 0 (Ok steps)).status

-- a summary of fewer than 2^64 steps with one step more, which ends so
abbrev pub with_ending : Summary → Ending → Summary
with_ending s (Design rows count) = record {
  designs = s.designs + 1;
  without = s.without;
  cut_short = s.cut_short;
  nodes = s.nodes + count;
  status = worse s.status 0;
}
with_ending s (NoDesign count) = record {
  designs = s.designs;
  without = s.without + 1;
  cut_short = s.cut_short;
  nodes = s.nodes + count;
  status = worse s.status 1;
}
with_ending s (BudgetEnded left budget) = record {
  designs = s.designs;
  without = s.without;
  cut_short = s.cut_short + 1;
  nodes = s.nodes + budget;
  status = worse s.status 2;
}

-- there is room for one step more
pub record HasRoom (summary : Summary) : Type 0 where
  pub designs : summary.designs + 1 < 2 ^ 64
  pub without : summary.without + 1 < 2 ^ 64
  pub cut_short : summary.cut_short + 1 < 2 ^ 64
  pub nodes : summary.nodes + 2 ^ 64 ≤ 2 ^ 128
