use Rattle.std.proofs.Common.{◌+◌, sym, ap, subst, ◌∙◌, arith, append_assoc}
use Rattle.std.specs.List.{slice_range}
use Rattle.fx_designs.specs.Nodes as nodes
use Rattle.fx_vectors.specs.Shape.{dimensions_of}
use Rattle.fx_book.specs.declared.version.Version.TheVariants.{Second}
use Rattle.fx_book.specs.Entries.{entries_text}
use Rattle.fx_base.specs.Writing.{HoldsPart}
use Rattle.fx_base.proofs.Held.{at_err, nothing, past_first}
use Rattle.fx_book.proofs.Lines.{entries-append}
use Rattle.fx_book.proofs.Ranges.{range-range}
use Rattle.fx_book.proofs.writing.put_range.Goals as goal

pub loop-at-preserved : goal.loop-at-preserved
loop-at-preserved c =
    let marks = c.args.marks.now in
    let from = c.args.from in
    let at = c.loop-at.at in
    let next = at + c.min.result in
    let before = slice_range marks from at in
    let range = slice_range marks at next in
    record {
      low = omega arith;
      within = omega arith;
      so_far =
          cc (
            c.in_ok-put_some_entries.ensures.ok,
            c.loop-at.invariant.so_far,
            append_assoc c.args.out.now
                (entries_text Second (dimensions_of c.args.shape) before)
                (entries_text Second (dimensions_of c.args.shape) range),
            entries-append Second (dimensions_of c.args.shape)
                before range,
            range-range marks from at next c.loop-at.invariant.low (omega arith),
          );
    }

pub returns-in_err-put_some_entries-clause-err : goal.returns-in_err-put_some_entries-clause-err
returns-in_err-put_some_entries-clause-err c =
    let marks = c.args.marks.now in
    let from = c.args.from in
    let to = c.args.to in
    let at = c.loop-at.at in
    at_err c.from_residual.result
    (subst (HoldsPart c.args.out.now c.put_some_entries.new.out)
    (sym (entries-append Second (dimensions_of c.args.shape) (slice_range marks from at) (slice_range marks at to))
    ∙ ap (entries_text Second (dimensions_of c.args.shape))
    (range-range marks from at to c.loop-at.invariant.low c.loop-at.invariant.within))
    (past_first _ _ _ _ _
    c.loop-at.invariant.so_far (nothing _ _ _ c.in_err-put_some_entries.ensures.err)))
