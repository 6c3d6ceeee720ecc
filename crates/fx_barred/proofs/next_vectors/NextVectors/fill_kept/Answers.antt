use Rattle.std.proofs.Common.{◌<◌, ◌∙◌, length, slice_index, sym, ap, arith}
use Rattle.fx_laws.proofs.Tables.{is_order-field}
use Rattle.fx_barred.proofs.Keeping.{stands-kept}
use Rattle.fx_barred.proofs.next_vectors.NextVectors.fill_kept.Goals as goal

pub fill-requires-clause-stand : goal.fill-requires-clause-stand
fill-requires-clause-stand c =
    let r = c.args.self.now.reached.now in
    let kept = c.args.kept.now in
    let rows = c.rows.result.now in
    let now = c.rows.ensures in
    let old = c.as_slice.ensures in
    let some : 0 < length kept.list = omega arith in
    let most =
    rw now at c.same_from.ensures.most in
    stands-kept r.q r.m (is_order-field r.q c.q-known.ensures.known) kept.rows r.rows _ c.same_from.result
    (λ x le less.
    ap (λ l. slice_index l x) (sym now)
    ∙ c.same_from.ensures.same x le (rw (← now) at less)
    ∙ ap (λ l. slice_index l x) old)
    c.args.self.now.words.now kept.depth c.args.self.now.start c.args.self.now.end kept.list some most
    (omega arith) (c.requires.known some)
