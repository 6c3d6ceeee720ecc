use Rattle.std.proofs.Common.{◌≡◌, ℕ, ◌+◌, ◌-◌, ◌∙◌, ◌∷◌, List, ap, sym, subst, take, drop, arith, Err, length}
use Rattle.fx_book.specs.Parts.{split}
use Rattle.fx_book.proofs.Splits.{some_parts}
use Rattle.std.proofs.lemmas.List.{length-map}
use Rattle.fx_table_book.specs.declared.base.Base.{Base}
use Rattle.fx_table_book.specs.declared.order.Order.{Order}
use Rattle.fx_table_book.specs.Tables.{strata_of, order_of, part_of}
use Rattle.fx_table_book.specs.Texts.{IsBookReading, with_key, with_entries, key_of, entries}
use Rattle.fx_table_book.proofs.Fronts.{key_line, key_fault, key_taken, entries_fault}
use Rattle.fx_table_book.proofs.reading.from_key.Goals as goal

pub returns-in-Err-clause-read : goal.returns-in-Err-clause-read
returns-in-Err-clause-read c =
    let bytes = c.args.bytes.now in
    let end = c.line_end-end.result in
    let rest = split 10 (drop (end + 1) bytes) in
    let line : List ℕ = take (end - c.args.at) (drop c.args.at bytes) in
    let cut : split 10 (drop c.args.at bytes) ≡ line ∷ rest =
    c.line_end-end.ensures.more (omega arith) in
    let some = some_parts 10 (drop (end + 1) bytes) in
    let b : Base = c.args.base in
    let own : Order = c.args.order in
    let count : ℕ = c.len-count.result in
    let many : count ≡ length (order_of own (strata_of b)) =
    cc (c.len-count.ensures, length-map c.in_ok-parts.field-0 part_of, c.in_ok-parts.ensures.parts) in
    let e =
    key_line line rest (split 10 (drop c.args.at bytes)) cut some b own count many in
    subst (λ r. IsBookReading r (Err c.in-Err.e)) (sym e)
    (key_fault line rest (split 10 (drop c.args.at bytes)) cut some b own (key_of b.q count line) c.in-Err.e
    c.in-Err.ensures.read)

pub returns-in-Err-read_entries-clause-read : goal.returns-in-Err-read_entries-clause-read
returns-in-Err-read_entries-clause-read c =
    let bytes = c.args.bytes.now in
    let end = c.line_end-end.result in
    let rest : List (List ℕ) = split 10 (drop (end + 1) bytes) in
    let line : List ℕ = take (end - c.args.at) (drop c.args.at bytes) in
    let cut =
    c.line_end-end.ensures.more (omega (arith, c.line_end-end.ensures.within, c.if-end-bytes.false)) in
    let some = some_parts 10 (drop (end + 1) bytes) in
    let b : Base = c.args.base in
    let own : Order = c.args.order in
    let count : ℕ = c.len-count.result in
    let many : count ≡ length (order_of own (strata_of b)) =
    cc (c.len-count.ensures, length-map c.in_ok-parts.field-0 part_of, c.in_ok-parts.ensures.parts) in
    let e =
    key_line line rest (split 10 (drop c.args.at bytes)) cut some b own count many in
    let key = key_taken (key_of b.q count line) c.in-Ok.key c.in-Ok.ensures.read in
    subst (λ r. IsBookReading r (Err c.in-Err-read_entries.e)) (sym (e ∙ ap (with_key b own rest) key))
    (entries_fault b own c.in-Ok.key (entries b 5 rest) c.in-Err-read_entries.e c.in-Err-read_entries.ensures.read)

pub returns-in-Ok-read_entries-clause-read : goal.returns-in-Ok-read_entries-clause-read
returns-in-Ok-read_entries-clause-read c =
    let bytes = c.args.bytes.now in
    let end = c.line_end-end.result in
    let rest : List (List ℕ) = split 10 (drop (end + 1) bytes) in
    let line : List ℕ = take (end - c.args.at) (drop c.args.at bytes) in
    let cut =
    c.line_end-end.ensures.more (omega (arith, c.line_end-end.ensures.within, c.if-end-bytes.false)) in
    let some = some_parts 10 (drop (end + 1) bytes) in
    let b : Base = c.args.base in
    let own : Order = c.args.order in
    let count : ℕ = c.len-count.result in
    let many : count ≡ length (order_of own (strata_of b)) =
    cc (c.len-count.ensures, length-map c.in_ok-parts.field-0 part_of, c.in_ok-parts.ensures.parts) in
    let e =
    key_line line rest (split 10 (drop c.args.at bytes)) cut some b own count many in
    let key = key_taken (key_of b.q count line) c.in-Ok.key c.in-Ok.ensures.read in
    e
    ∙ ap (with_key b own rest) key
    ∙ ap (with_entries b own c.in-Ok.key) c.in-Ok-read_entries.ensures.read
