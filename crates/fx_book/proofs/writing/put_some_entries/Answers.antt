use Rattle.std.proofs.Common.{ℕ, ◌≡◌, ◌-◌, ◌<◌, ◌≤◌, suc, List, ◌∷◌, ◌++◌, length, take, drop, get_or, sym, ap, ◌∙◌}
use Rattle.std.proofs.Common.{arith}
use Rattle.std.specs.List.{slice_range}
use Rattle.std.proofs.Math.Seq.{drop-cons}
use Rattle.fx_designs.specs.Nodes as nodes
use Rattle.fx_vectors.specs.Marks.{meaning_of}
use Rattle.fx_vectors.specs.Shape.{dimensions_of}
use Rattle.fx_book.specs.declared.version.Version.TheVariants.{Second}
use Rattle.fx_book.specs.Entries.{entry_text, entries_text}
use Rattle.fx_book.proofs.writing.put_some_entries.Goals as goal

-- an item, and those after it up to a place
cons-range : {T : Type 0} (xs : List T) (i to : ℕ) (x : T) → i < to → to ≤ length xs → x ≡ get_or xs i x
    → x ∷ slice_range xs (suc i) to ≡ slice_range xs i to
cons-range {T} xs i to x low high is =
    let e : to - i ≡ suc (to - suc i) = omega arith in
    cc (drop-cons xs i x (omega arith))

pub loop-i-init : goal.loop-i-init
loop-i-init c =
    let e : c.args.to - c.args.to ≡ 0 = omega arith in
    record {
      so_far = c.new-text.ensures ∙ ap
          (λ n. entries_text Second (dimensions_of c.args.shape) (take n (drop c.args.to c.args.marks.now)))
          (sym e);
      low = c.requires.ordered;
      short = omega (arith, ap length c.new-text.ensures);
    }

pub loop-i-preserved : goal.loop-i-preserved
loop-i-preserved c =
    let marks = c.args.marks.now in
    let mark = meaning_of c.get_near-mark.result.0 in
    let i = c.loop-i.i - 1 in
    let next : c.loop-i.i ≡ suc i = omega arith in
    record {
      so_far =
          c.put_entry.ensures.text
          ∙ ap (λ l. entry_text Second (dimensions_of c.args.shape) mark ++ l)
          (c.loop-i.invariant.so_far ∙ ap
          (λ k. entries_text Second (dimensions_of c.args.shape) (slice_range marks k c.args.to)) next)
          ∙ ap (entries_text Second (dimensions_of c.args.shape))
          (cons-range marks i c.args.to mark (omega arith) (omega arith) c.get_near-mark.ensures.mark);
      low = omega arith;
      short = omega arith;
    }

pub returns-clause-ok : goal.returns-clause-ok
returns-clause-ok c =
    let marks = c.args.marks.now in
    let at : c.loop-i.i ≡ c.args.from = omega arith in
    let text : c.as_slice.result.now
    ≡ entries_text Second (dimensions_of c.args.shape) (slice_range marks c.args.from c.args.to) =
    cc (c.as_slice.ensures, c.loop-i.invariant.so_far) in
    rw text at c.put.ensures.ok
