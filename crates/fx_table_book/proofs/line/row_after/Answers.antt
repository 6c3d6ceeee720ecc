use Rattle.std.proofs.Common.{◌≡◌, ℕ, ◌+◌, ◌-◌, ◌<◌, List, [], ◌∷◌, drop, take, length, arith, Err, refl}
use Rattle.fx_book.specs.declared.fault.FaultKind.TheVariants.{Form}
use Rattle.fx_book.proofs.Splits.{some_parts}
use Rattle.fx_book.proofs.Listed.{more_after}
use Rattle.fx_table_book.specs.Texts.{row_of}
use Rattle.fx_table_book.proofs.line.row_after.Goals as goal

pub returns-then-end-line-2-clause-row : goal.returns-then-end-line-2-clause-row
returns-then-end-line-2-clause-row c =
    let line = c.args.line.now in
    let next = c.next_stop-end.result in
    cc (
      more_after line c.args.end next (omega arith)
          (c.next_stop-end.ensures.more c.if-end-line-2.true),
      no_more c.args.runs
          (take (next - (c.args.end + 1)) (drop (c.args.end + 1) line)) _
          (some_parts 32 (drop (next + 1) line)),
    )
  where
    no_more : (runs : ℕ) (r : List ℕ) (parts : List (List ℕ)) → 0 < length parts → row_of runs (r ∷ parts) ≡ Err Form
    no_more runs r [] h = absurd (omega arith)
    no_more runs r (part ∷ parts) h = refl
