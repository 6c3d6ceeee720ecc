use Rattle.std.proofs.Common.{◌≡◌, ◌*◌, ◌^◌, [], ◌∙◌, length, sym, ap, arith}
use Rattle.std.proofs.lemmas.List.{length-replicate}
use Rattle.fx_barred.specs.Reached.{ReachedView}
use Rattle.fx_barred.specs.FirstWords.{AreWords}
use Rattle.fx_barred.proofs.Firsts.{words_start}
use Rattle.fx_barred.proofs.Listing.{lists-start}
use Rattle.fx_barred.proofs.Keeping.{kept-start}
use Rattle.fx_barred.proofs.Tables.{written}
use Rattle.fx_barred.proofs.first_words.FirstWords.of.Goals as goal

pub invariant_of-result : goal.invariant_of-result
invariant_of-result c =
    let r = c.in_ok-reached.reached in
    let start : ReachedView = record { q = c.args.field; m = c.args.m; most = 0; room = c.args.s; rows = [] } in
    let now = c.in_ok-reached.ensures in
    let items = c.in_ok-tables.tables.items in
    let old = c.as_mut_slice.ensures.value in
    let len = c.fill_with.ensures.len ∙ ap length old in
    let new = written c.in_ok-tables.tables.len c.fill_with.new.tables items len
    (omega arith) in
    let count =
    ap length c.in_ok-tables.ensures ∙ length-replicate (c.args.s * c.from.result) 0 in
    let size = c.from.ensures ∙ c.size.ensures.points in
    let room : c.args.s ≡ r.room = cc in
    let total : length c.fill_with.new.tables ≡ r.room * r.q ^ r.m =
    cc in
    let words : AreWords r.q r.room c.args.words.now =
    rw now c.requires.words in
    let first =
    rw c.as_slice.ensures at c.fill_with.ensures.first in
    let lists = c.in_ok-lists.lists.items in
    let lists_old = c.as_mut_slice-2.ensures.value in
    let start =
    lists-start r c.args.words.now lists _ (ap (λ n. 4 * n) room) c.in_ok-lists.ensures in
    let lists_len = c.fill_with.ensures.lists.len ∙ sym start.len in
    let lists_new = written c.in_ok-lists.lists.len c.fill_with.new.lists lists lists_len
    (omega (arith, ap length lists_old)) in
    let kept = c.in_ok-kept.kept.items in
    let kept_old = c.as_mut_slice-3.ensures.value in
    let kept_begun =
    kept-start r.q r.m r.room c.args.words.now kept c.args.s room c.in_ok-kept.ensures in
    let kept_len =
    c.fill_with.ensures.known.len ∙ sym kept_begun.len in
    let kept_new = written c.in_ok-kept.kept.len c.fill_with.new.kept kept kept_len
    (omega (arith, ap length kept_old)) in (
      rw new (words_start r c.args.words.now c.fill_with.new.tables (cc) words total first),
      rw lists_new (rw c.as_slice.ensures at c.fill_with.ensures.lists),
      rw kept_new (rw c.as_slice.ensures at c.fill_with.ensures.known),
    )

pub fill_with-requires-clause-lists : goal.fill_with-requires-clause-lists
fill_with-requires-clause-lists c =
    let r = c.in_ok-reached.reached in
    let room : c.args.s ≡ r.room = cc c.in_ok-reached.ensures in
    rw c.as_mut_slice-2.ensures.value
    (lists-start r c.as_slice.result.now c.in_ok-lists.lists.items _ (ap (λ n. 4 * n) room)
    c.in_ok-lists.ensures)

pub fill_with-requires-clause-known : goal.fill_with-requires-clause-known
fill_with-requires-clause-known c =
    let r = c.in_ok-reached.reached in
    let room : c.args.s ≡ r.room = cc c.in_ok-reached.ensures in
    rw c.as_mut_slice-3.ensures.value
    (kept-start r.q r.m r.room c.as_slice.result.now c.in_ok-kept.kept.items c.args.s room c.in_ok-kept.ensures)
