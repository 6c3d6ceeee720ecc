use Rattle.std.proofs.Common.{◌≡◌, ℕ, ◌+◌, ◌-◌, ◌<◌, List, [], ◌∷◌, drop, take, length, arith, Err, refl}
use Rattle.fx_book.specs.declared.fault.FaultKind.TheVariants.{Form}
use Rattle.fx_book.proofs.Splits.{some_parts}
use Rattle.fx_book.proofs.Listed.{more_after}
use Rattle.fx_table_book.specs.Texts.{order_from}
use Rattle.fx_table_book.proofs.LineParts.{first_part}
use Rattle.fx_table_book.proofs.front.order_from.Goals as goal

pub returns-then-last-line : goal.returns-then-last-line
returns-then-last-line c =
    let line = c.args.line.now in
    let end = c.next_stop-end.result in
    let next = c.next_stop-last.result in
    let stop = c.next_stop-end.ensures in
    cc (
      first_part line end stop.within stop.last stop.more,
      more_after line end next (omega arith)
          (c.next_stop-last.ensures.more c.if-last-line.true),
      no_more (take end line)
          (take (next - (end + 1)) (drop (end + 1) line)) _
          (some_parts 32 (drop (next + 1) line)),
    )
  where
    no_more : (word name : List ℕ) (parts : List (List ℕ)) → 0 < length parts
        → order_from (word ∷ name ∷ parts) ≡ Err Form
    no_more word name [] h = absurd (omega arith)
    no_more word name (part ∷ parts) h = refl
