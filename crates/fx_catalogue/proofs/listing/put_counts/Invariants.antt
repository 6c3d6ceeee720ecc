use Rattle.std.proofs.Common.{◌≡◌, ◌+◌, ◌++◌, drop}
use Rattle.fx_catalogue.specs.Listing.{counts_from}
use Rattle.fx_catalogue.proofs.listing.put_counts.Given as goal

abbrev pub invariant-loop-i : goal.invariant-loop-i
invariant-loop-i l = l.out ++ counts_from (l.i + 1) (drop l.i l.pattern) ≡ l.fn.out ++ counts_from 1 l.pattern
