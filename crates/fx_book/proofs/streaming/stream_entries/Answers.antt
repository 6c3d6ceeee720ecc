use Rattle.std.proofs.Common.{ℕ, ◌≡◌, ◌+◌, ◌≤◌, ◌++◌, List, length, ap, subst, ◌∙◌, arith}
use Rattle.std.specs.List.{slice_range}
use Rattle.fx_designs.specs.Nodes as nodes
use Rattle.fx_designs.specs.Problems.{Dimensions}
use Rattle.fx_vectors.specs.Shape.{dimensions_of}
use Rattle.fx_book.specs.declared.version.Version.TheVariants.{Second}
use Rattle.fx_book.specs.Entries.{entries_text}
use Rattle.fx_book.specs.Streaming.{WritesTo}
use Rattle.fx_book.proofs.Lines.{entries-append}
use Rattle.fx_book.proofs.Ranges.{range-all, range-range}
use Rattle.fx_book.proofs.Streams.{none_written, stopped_first, written_then}
use Rattle.fx_book.proofs.streaming.stream_entries.Goals as goal

-- the entries up to one place, and from there up to another
two_ranges : (d : Dimensions) (marks : List nodes.Mark) (at next : ℕ) → at ≤ next
    → entries_text Second d (slice_range marks 0 at) ++ entries_text Second d (slice_range marks at next)
    ≡ entries_text Second d (slice_range marks 0 next)
two_ranges d marks at next low =
    cc (
      entries-append Second d (slice_range marks 0 at) (slice_range marks at next),
      range-range marks 0 at next
          (omega arith) low,
    )

pub loop-at-init : goal.loop-at-init
loop-at-init g c = record { within = omega arith; written = none_written g.K.Sink tt c.args.sink.now }

pub loop-at-preserved : goal.loop-at-preserved
loop-at-preserved g c =
    let at = c.loop-at.at in
    let next = at + c.min.result in
    record {
      within = omega arith;
      written =
          rw (← (two_ranges (dimensions_of c.args.shape) c.args.marks.now at next (omega arith)))
          (written_then g.K.Sink _ _ c.loop-at.invariant.written c.in_ok-stream_range.ensures);
    }

pub returns-in_err-stream_range : goal.returns-in_err-stream_range
returns-in_err-stream_range g c =
    let marks = c.args.marks.now in
    let d = dimensions_of c.args.shape in
    let at = c.loop-at.at in
    let next = at + c.min.result in
    let ended = c.from_residual.result in
    let rest = entries_text Second d (slice_range marks next (length marks)) in
    rw (← (two_ranges d marks next (length marks) (omega arith) ∙ ap (entries_text Second d) (range-all marks)))
    (subst (λ l. WritesTo g.K.Sink (l ++ rest) c.args.sink.now c.stream_range.new.sink ended)
    (two_ranges d marks at next (omega arith))
    (stopped_first g.K.Sink _ rest c.in_err-stream_range.field-0.0
    (written_then g.K.Sink _ _ c.loop-at.invariant.written c.in_err-stream_range.ensures) ended
    c.from_residual.ensures.1))

pub returns : goal.returns
returns g c =
    let marks = c.args.marks.now in
    let d = dimensions_of c.args.shape in
    let all : c.loop-at.at ≡ length marks = omega arith in
    rw (ap (λ n. entries_text Second d (slice_range marks 0 n)) all ∙ ap (entries_text Second d) (range-all marks)) at
    c.loop-at.invariant.written
