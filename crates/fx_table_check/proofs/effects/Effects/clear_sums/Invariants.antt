use Rattle.std.proofs.Common.{ℕ, ◌≡◌, ◌≤◌, List}
use Rattle.std.specs.Prelude.{count_by}
use Rattle.std.specs.List.{range_with_len}
use Rattle.fx_designs.specs.Galois.{digits}
use Rattle.fx_strata.specs.Clear.{is_clear_sum}
use Rattle.fx_table_book.specs.Tables.{strata_of}
use Rattle.fx_table_check.specs.Effects.{AreEffects}
use Rattle.fx_table_check.proofs.effects.Effects.clear_sums.Given as goal

abbrev pub invariant-loop-sum : goal.invariant-loop-sum
invariant-loop-sum l = record {
  few : l.count ≤ l.sum;
  are : (rows : List ℕ) → AreEffects l.base.q l.base.m rows l.self
      → l.count ≡ count_by (λ r. is_clear_sum (strata_of l.base) rows (digits l.base.q l.base.m r))
      (range_with_len 0 l.sum);
}
