use Rattle.search_tests.proofs.job.a_job_ends_at_its_design_or_its_limit_or_is_cut.Given as goal

abbrev pub invariant-loop-limit : goal.invariant-loop-limit
invariant-loop-limit g l = Unit {0}
