use Rattle.std.proofs.Common.{◌≡◌, ◌+◌, ◌-◌, ◌∙◌, ap, sym, take, drop, arith, Err, le-ltb}
use Rattle.std.proofs.Common.{ltb, length}
use Rattle.std.proofs.lemmas.Bool.{cond-false}
use Rattle.fx_book.specs.Parts.{split}
use Rattle.fx_book.specs.Faults.{fault}
use Rattle.fx_book.specs.Versions.{version_of}
use Rattle.fx_book.specs.declared.fault.FaultKind.TheVariants as kind
use Rattle.fx_book.specs.Heads.{book_of, from_title, head_of, with_head, with_version}
use Rattle.fx_book.proofs.Splits.{some_parts}
use Rattle.fx_book.proofs.Lines.{line_more}
use Rattle.fx_book.proofs.book.read_book.Goals as goal

pub returns-in-Some-clause-read : goal.returns-in-Some-clause-read
unfolding book_of
returns-in-Some-clause-read c =
    let bytes = c.args.bytes.now in
    let end = c.next_stop-end.result in
    let rest = split 10 (drop (end + 1) bytes) in
    let line = take (end - 0) (drop 0 bytes) in
    let cut =
    c.next_stop-end.ensures.more (omega arith) in
    let is = sym c.version_of.ensures ∙ c.in-Some.is in
    let e : book_of bytes ≡ with_head c.in-Some.version (head_of c.in-Some.version rest) =
    cond-false (ltb 268435456 (length bytes)) _ _ (le-ltb _ _ (omega arith)) ∙ ap
    from_title cut
    ∙ line_more (Err (fault kind.Title 1)) (λ line rest. with_version rest (version_of line)) line rest
    (some_parts 10 (drop (end + 1) bytes))
    ∙ ap (with_version rest) is in
    rw e c.from_head.ensures.read
