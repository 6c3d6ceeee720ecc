use Rattle.std.proofs.Common.{◌≡◌, ℕ, ◌+◌, ◌-◌, ◌∙◌, ◌∷◌, List, sym, take, drop, arith}
use Rattle.fx_book.specs.Parts.{split}
use Rattle.fx_book.proofs.Splits.{some_parts}
use Rattle.std.specs.Prelude.{codes}
use Rattle.std.specs.Str.{bytes_eq}
use Rattle.std.proofs.lemmas.Bool.{cond-false, cond-true}
use Rattle.fx_table_book.specs.Texts.{from_demands, from_pattern}
use Rattle.fx_table_book.proofs.Fronts.{demands_line}
use Rattle.fx_table_book.proofs.reading.from_demands.Goals as goal

pub returns-then-not-is_word-clause-read : goal.returns-then-not-is_word-clause-read
returns-then-not-is_word-clause-read c =
    let bytes = c.args.bytes.now in
    let end = c.line_end-end.result in
    let line = take (end - c.args.at) (drop c.args.at bytes) in
    rw c.stop-then-not-is_word.ensures
    (demands_line line (split 10 (drop (end + 1) bytes)) _ (c.line_end-end.ensures.more (omega arith))
    (some_parts 10 (drop (end + 1) bytes)) c.args.base
    ∙ cond-false _ _ _ (sym c.is_word.ensures ∙ c.if-not-is_word.true))

pub returns-clause-read : goal.returns-clause-read
returns-clause-read c =
    let bytes : List ℕ = c.args.bytes.now in
    let end : ℕ = c.line_end-end.result in
    let rest : List (List ℕ) = split 10 (drop (end + 1) bytes) in
    let line : List ℕ = take (end - c.args.at) (drop c.args.at bytes) in
    let cut : split 10 (drop c.args.at bytes) ≡ line ∷ rest =
    c.line_end-end.ensures.more (omega arith) in
    let some = some_parts 10 (drop (end + 1) bytes) in
    let e : from_demands c.args.base (split 10 (drop c.args.at bytes)) ≡ from_pattern c.args.base rest =
    demands_line line rest (split 10 (drop c.args.at bytes)) cut some c.args.base
    ∙ cond-true (bytes_eq line (codes "resolution 3")) _ _ (sym c.is_word.ensures ∙ c.if-not-is_word.false) in
    rw e c.from_pattern.ensures.read
