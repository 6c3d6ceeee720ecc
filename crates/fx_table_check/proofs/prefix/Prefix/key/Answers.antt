use Rattle.std.proofs.Common.{◌≡◌, ◌<◌, ◌-◌, ◌^◌, ◌++◌, ◌∷◌, [], length, get_or, slice_index}
use Rattle.std.proofs.Common.{subst, ap, ◌∙◌, arith}
use Rattle.std.specs.Prelude.{All}
use Rattle.fx_strata.specs.Designs as designs
use Rattle.fx_table_book.specs.declared.order.Part.TheVariants.{Constant}
use Rattle.fx_table_book.specs.Tables.{IsBase}
use Rattle.fx_table_check.specs.Goals.{value_at}
use Rattle.fx_table_check.proofs.Divided.{divided-more, valid-more, last-back, value-divides, nothing-left}
use Rattle.fx_table_check.proofs.prefix.Prefix.key.Goals as goal

pub loop-part-preserved : goal.loop-part-preserved
loop-part-preserved c =
    let base = c.args.self.now.base in
    let rows = c.args.self.now.rows in
    let part = get_or c.args.parts.now c.loop-part.part-index (Constant 0) in
    let last : c.row-last.result ≡ slice_index rows (length rows - 1) =
    cc (c.row-last.ensures.row, c.len.ensures.count) in
    let whole : c.loop-part.self.rows ++ c.row-last.result ∷ [] ≡ rows =
    cc (c.loop-part.invariant.rows, last-back rows c.requires.some) in
    let value : c.value_with.result ≡ value_at base rows part =
    cc (c.value_with.ensures.value, c.loop-part.invariant.base) in
    let codes =
    c.from-multiples.ensures ∙ ap (λ b. b.q - 1)
    (c.base.ensures.base ∙ ap (λ v. v.base) c.pop.ensures) in
    let all : All (λ r. r < base.q ^ base.m) rows =
    subst (All (λ r. r < base.q ^ base.m)) c.all_rows-low.ensures.rows c.all_rows-low.ensures.low in
    let divided = value-divides base (subst IsBase (ap (λ v. v.base) c.pop.ensures) c.base.ensures.valid) rows
    (λ i l. all i 0 l) (omega arith) part
    (c.requires.parts c.loop-part.part-index (Constant 0) c.loop-part-test.true) in
    let none_left =
    nothing-left c.value_with.result c.from-multiples.result divided.0
    (cc) in
    record {
      base = cc (c.value_with.ensures.same, c.loop-part.invariant.base);
      rows = cc (c.value_with.ensures.same, c.loop-part.invariant.rows);
      key = cc (
        c.in_ok-push.ensures.ok,
        divided-more base.q _ c.args.parts.now
            c.loop-part.part-index
            _ c.loop-part.key c.value_with.result c.from-multiples.result codes c.loop-part-test.true
            c.loop-part.invariant.key value none_left,
      );
      valid = valid-more base.q c.loop-part.key c.loop-part.part-index c.value_with.result c.from-multiples.result
          codes none_left c.value_with.ensures.small c.loop-part.invariant.valid c.push.new.self
          c.in_ok-push.ensures.ok;
    }
