use Rattle.std.proofs.Common.{◌≡◌, ℕ, ◌+◌, ◌-◌, ◌∙◌, ◌∷◌, List, ap, sym, take, drop, arith, Err}
use Rattle.fx_book.specs.Parts.{split}
use Rattle.fx_book.specs.Faults.{fault}
use Rattle.fx_book.specs.declared.fault.FaultKind.TheVariants as kind
use Rattle.fx_book.specs.Heads.{head_of, from_demands, with_shape, shape_of}
use Rattle.fx_book.proofs.Splits.{some_parts}
use Rattle.fx_book.proofs.Lines.{line_more}
use Rattle.fx_book.proofs.front.read_head.Goals as goal

pub returns-in-Some-clause-read : goal.returns-in-Some-clause-read
returns-in-Some-clause-read c =
    let bytes : List ℕ = c.args.bytes.now in
    let end : ℕ = c.next_stop-end.result in
    let rest : List (List ℕ) = split 10 (drop (end + 1) bytes) in
    let line : List ℕ = take (end - c.args.at) (drop c.args.at bytes) in
    let cut : split 10 (drop c.args.at bytes) ≡ line ∷ rest =
    c.next_stop-end.ensures.more (omega arith) in
    let is =
    sym c.shape_of.ensures.shape ∙ c.in-Some.is in
    let e : head_of c.args.version (split 10 (drop c.args.at bytes)) ≡ from_demands c.in-Some.shape rest =
    ap (head_of c.args.version) cut ∙ line_more (Err (fault kind.Size 2))
    (λ line rest. with_shape rest (shape_of c.args.version (split 32 line))) line rest
    (some_parts 10 (drop (end + 1) bytes)) ∙ ap (with_shape rest) is in
    rw e c.from_demands.ensures.read
