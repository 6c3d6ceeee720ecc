use Rattle.std.proofs.Common.{◌≡◌, ℕ, ◌+◌, ◌-◌, ◌∙◌, ◌∷◌, List, ap, take, drop, arith, Some, Err}
use Rattle.fx_vectors.specs.declared.shape.Shape.{Shape}
use Rattle.fx_book.specs.Parts.{split}
use Rattle.fx_book.specs.Faults.{fault}
use Rattle.fx_book.specs.declared.fault.FaultKind.TheVariants as kind
use Rattle.fx_book.specs.Heads.{from_beat, with_beat, beat_of, may_be_beaten}
use Rattle.fx_book.proofs.Splits.{some_parts}
use Rattle.fx_book.proofs.Lines.{line_more}
use Rattle.fx_book.proofs.front.from_beat.Goals as goal

pub returns-in-Some-clause-read : goal.returns-in-Some-clause-read
returns-in-Some-clause-read c =
    let shape : Shape = c.args.shape in
    let bytes : List ℕ = c.args.bytes.now in
    let end : ℕ = c.next_stop-end.result in
    let rest : List (List ℕ) = split 10 (drop (end + 1) bytes) in
    let line : List ℕ = take (end - c.args.at) (drop c.args.at bytes) in
    let cut : split 10 (drop c.args.at bytes) ≡ line ∷ rest =
    c.next_stop-end.ensures.more (omega arith) in
    let is : beat_of shape.s (may_be_beaten shape c.args.demands) line ≡ Some c.in-Some.beat =
    cc (c.may_be_beaten-allowed.ensures, c.in_ok-beat_of.ensures.read, c.in-Some.is) in
    rw c.is_some.ensures
    (ap (from_beat shape c.args.demands) cut ∙ line_more (Err (fault kind.Pattern 4))
    (λ line rest. with_beat shape c.args.demands rest (beat_of shape.s (may_be_beaten shape c.args.demands) line))
    line rest (some_parts 10 (drop (end + 1) bytes))
    ∙ ap (with_beat shape c.args.demands rest) is)
