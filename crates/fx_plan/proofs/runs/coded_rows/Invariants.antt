use Rattle.std.proofs.Common.{◌≡◌, map}
use Rattle.std.specs.List.{range_with_len}
use Rattle.fx_plan.specs.Coded.{row_codes}
use Rattle.fx_plan.proofs.runs.coded_rows.Given as goal

abbrev pub invariant-loop-k : goal.invariant-loop-k
invariant-loop-k l =
    map (λ r. r.items) l.rows.items ≡ map (row_codes l.layout.runs.now l.columns) (range_with_len 0 l.k)
