use Rattle.std.proofs.Common.{◌≡◌, ℕ, ◌+◌, ◌-◌, ◌∙◌, ◌∷◌, List, sym, take, drop, arith, le-ltb, ltb, length}
use Rattle.std.proofs.Common.{Err}
use Rattle.std.specs.Prelude.{codes}
use Rattle.std.specs.Str.{bytes_eq}
use Rattle.std.proofs.lemmas.Bool.{cond-false, cond-true}
use Rattle.fx_book.specs.declared.fault.FaultKind.TheVariants.{Title}
use Rattle.fx_book.specs.Faults.{fault}
use Rattle.fx_book.specs.Parts.{split}
use Rattle.fx_book.proofs.Splits.{some_parts}
use Rattle.fx_table_book.specs.Texts.{book_of, from_base, from_size}
use Rattle.fx_table_book.proofs.Fronts.{title_line}
use Rattle.fx_table_book.proofs.reading.read_table_book.Goals as goal

pub returns-then-is_word-clause-read : goal.returns-then-is_word-clause-read
unfolding book_of
returns-then-is_word-clause-read c =
    let bytes : List ℕ = c.args.bytes.now in
    let end : ℕ = c.line_end-end.result in
    let rest : List (List ℕ) = split 10 (drop (end + 1) bytes) in
    let line : List ℕ = take (end - 0) (drop 0 bytes) in
    let cut : split 10 bytes ≡ line ∷ rest =
    c.line_end-end.ensures.more (omega arith) in
    let e : book_of bytes ≡ from_base rest =
    cond-false (ltb 33554432 (length bytes)) _ _
    (le-ltb _ _ (omega arith))
    ∙ title_line line rest (split 10 bytes) cut (some_parts 10 (drop (end + 1) bytes))
    ∙ cond-true (bytes_eq line (codes "factex-table 2")) _ _ (sym c.is_word.ensures ∙ c.if-is_word.true) in
    rw e c.from_base.ensures.read

pub returns-then-is_word-2-clause-read : goal.returns-then-is_word-2-clause-read
unfolding book_of
returns-then-is_word-2-clause-read c =
    let bytes : List ℕ = c.args.bytes.now in
    let end : ℕ = c.line_end-end.result in
    let rest : List (List ℕ) = split 10 (drop (end + 1) bytes) in
    let line : List ℕ = take (end - 0) (drop 0 bytes) in
    let cut : split 10 bytes ≡ line ∷ rest =
    c.line_end-end.ensures.more (omega arith) in
    let e : book_of bytes ≡ from_size rest =
    cond-false (ltb 33554432 (length bytes)) _ _
    (le-ltb _ _ (omega arith))
    ∙ title_line line rest (split 10 bytes) cut (some_parts 10 (drop (end + 1) bytes))
    ∙ cond-false (bytes_eq line (codes "factex-table 2")) _ _ (sym c.is_word.ensures ∙ c.if-is_word.false)
    ∙ cond-true (bytes_eq line (codes "factex-table 1")) _ _ (sym c.is_word-2.ensures ∙ c.if-is_word-2.true) in
    rw e c.from_size.ensures.read

pub returns-clause-read : goal.returns-clause-read
unfolding book_of
returns-clause-read c =
    let bytes = c.args.bytes.now in
    let end = c.line_end-end.result in
    let line = take (end - 0) (drop 0 bytes) in
    let e : book_of bytes ≡ Err (fault Title 1) =
    cond-false (ltb 33554432 (length bytes)) _ _
    (le-ltb _ _ (omega arith))
    ∙ title_line line (split 10 (drop (end + 1) bytes)) _ (c.line_end-end.ensures.more (omega arith))
    (some_parts 10 (drop (end + 1) bytes))
    ∙ cond-false _ _ _ (sym c.is_word.ensures ∙ c.if-is_word.false)
    ∙ cond-false _ _ _ (sym c.is_word-2.ensures ∙ c.if-is_word-2.false) in
    rw c.stop-2.ensures e
