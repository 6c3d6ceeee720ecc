use Rattle.std.proofs.Common.{◌≡◌, ◌+◌, ◌^◌, sym, ap, ap₂, ◌∙◌, arith}
use Rattle.std.specs.Prelude.{count_by}
use Rattle.std.specs.List.{range_with_len}
use Rattle.fx_designs.specs.Galois.{digits}
use Rattle.fx_strata.specs.Canonical.{unclear}
use Rattle.fx_strata.specs.Clear.{is_clear_sum, pairs}
use Rattle.fx_strata.proofs.Live.{clear_by_tallies}
use Rattle.fx_table_book.specs.Tables.{strata_of}
use Rattle.fx_table_book.proofs.Bases.{field}
use Rattle.fx_table_check.proofs.prefix.Prefix.unclear.Goals as goal
use Rattle.fx_table_check.proofs.prefix.Prefix.unclear.Goals.{After-from}

parts : (c : After-from)
    → c.from.result + unclear (strata_of c.args.self.now.base) c.args.self.now.rows ≡ c.pairs.result
parts c =
    let x = strata_of c.args.self.now.base in
    let same = c.base-base.ensures.base in
    let h =
    rw (← same) at c.requires.effects in
    ap (λ n. n + unclear x c.args.self.now.rows)
    (c.from.ensures ∙ c.clear_sums.ensures c.args.self.now.rows h
    ∙ ap (λ b. count_by (λ r. is_clear_sum (strata_of b) c.args.self.now.rows (digits b.q b.m r))
    (range_with_len 0 (b.q ^ b.m))) same)
    ∙ clear_by_tallies x (field c.args.self.now.base c.base-base.ensures.valid) c.args.self.now.rows
    ∙ sym (c.pairs.ensures.pairs ∙ ap₂ pairs (ap (λ b. b.q) same) c.len.ensures.count)

pub overflow_sub-result : goal.overflow_sub-result
overflow_sub-result c = (omega (arith, parts (goal.at.overflow_sub-result c).After-from))

pub returns : goal.returns
returns c = (omega (arith, parts (goal.at.returns c).After-from))
