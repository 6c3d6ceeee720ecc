use Rattle.std.proofs.Common.{◌≡◌, ℕ, ◌+◌, ◌-◌, ◌∙◌, ◌∷◌, List, ap, sym, take, drop, arith, Err}
use Rattle.fx_vectors.specs.declared.shape.Shape.{Shape}
use Rattle.fx_book.specs.Parts.{split}
use Rattle.fx_book.specs.Faults.{fault}
use Rattle.fx_book.specs.declared.fault.FaultKind.TheVariants as kind
use Rattle.fx_book.specs.Heads.{from_demands, from_beat, with_demands}
use Rattle.fx_book.specs.Demands.{demands_of}
use Rattle.fx_book.proofs.Splits.{some_parts}
use Rattle.fx_book.proofs.Lines.{line_more}
use Rattle.fx_book.proofs.front.from_demands.Goals as goal

pub returns-in-Some-clause-read : goal.returns-in-Some-clause-read
returns-in-Some-clause-read c =
    let shape : Shape = c.args.shape in
    let bytes : List ℕ = c.args.bytes.now in
    let end : ℕ = c.next_stop-end.result in
    let rest : List (List ℕ) = split 10 (drop (end + 1) bytes) in
    let line : List ℕ = take (end - c.args.at) (drop c.args.at bytes) in
    let cut : split 10 (drop c.args.at bytes) ≡ line ∷ rest =
    c.next_stop-end.ensures.more (omega arith) in
    let is =
    sym c.in_ok-demands_of.ensures.read ∙ c.in-Some.is in
    let e : from_demands shape (split 10 (drop c.args.at bytes)) ≡ from_beat shape c.in-Some.demands rest =
    ap (from_demands shape) cut ∙ line_more (Err (fault kind.Demands 3))
    (λ line rest. with_demands shape rest (demands_of shape (split 32 line))) line rest
    (some_parts 10 (drop (end + 1) bytes)) ∙ ap (with_demands shape rest) is in
    rw e c.from_beat.ensures.read
