use Rattle.std.proofs.Common.{ℕ, ◌≡◌, ◌<◌, ◌≤◌, ◌+◌, ◌*◌, ◌^◌, ◌++◌, ◌∷◌, [], ◌∙◌, length, length-append}
use Rattle.std.proofs.Common.{slice_index, refl, sym, subst, ap, arith}
use Rattle.fx_barred.specs.Reached.{ReachedView}
use Rattle.fx_barred.specs.Keeping.{AreKept}
use Rattle.fx_barred.proofs.Firsts.{words_push}
use Rattle.fx_barred.proofs.Listing.{lists-push}
use Rattle.fx_barred.proofs.Tables.{written}
use Rattle.fx_barred.proofs.first_words.FirstWords.push.Goals as goal

pub invariant_of-self : goal.invariant_of-self
invariant_of-self c =
    let s = c.self.inside in
    let r = s.reached in
    let next : ReachedView = record r { rows = r.rows ++ c.args.row ∷ [] } in
    let long = length-append r.rows (c.args.row ∷ []) in
    let now = c.push.ensures in
    let old = c.as_mut_slice.ensures.value in
    let len = c.fill_with.ensures.len ∙ ap length old in
    let new = written s.tables.len c.fill_with.new.tables s.tables.items len
    (omega arith) in
    let kept : (k : ℕ) → k < (length r.rows + 1) * r.q ^ r.m
    → slice_index c.fill_with.new.tables k ≡ slice_index s.tables.items k =
    λ k low.
    cc (
      c.fill_with.ensures.kept k
          (subst (λ v. k < length v.rows * v.q ^ v.m) (sym now)
          (subst (λ n. k < n * r.q ^ r.m) (sym long) low)),
      old,
    ) in
    let first =
    rw long at (rw now at (rw c.as_slice.ensures at c.fill_with.ensures.first)) in
    let lists = s.lists.items in
    let lists_old = c.as_mut_slice-then-len-room.ensures.value in
    let before = lists-push r c.args.row s.words.now lists c.self.invariant.1 in
    let lists_len : length c.fill_with.new.lists ≡ length lists =
    cc c.fill_with.ensures.lists.len in
    let lists_new = written s.lists.len c.fill_with.new.lists lists lists_len
    (omega (arith, ap length lists_old)) in
    let stored = s.kept.items in
    let kept_old = c.as_mut_slice-then-len-room-2.ensures.value in
    let kept_before = c.self.invariant.2 in
    let kept_len : length c.fill_with.new.kept ≡ length stored =
    cc c.fill_with.ensures.known.len in
    let kept_new = written s.kept.len c.fill_with.new.kept stored kept_len
    (omega (arith, ap length kept_old)) in (
      rw new (rw (← now) at
          (words_push r c.args.row s.words.now s.tables.items c.fill_with.new.tables c.self.invariant.0 len kept
          (λ more. first))),
      rw lists_new (rw c.as_slice.ensures at c.fill_with.ensures.lists),
      rw kept_new (rw c.as_slice.ensures at c.fill_with.ensures.known),
    )

pub invariant_of-self-else-len-room : goal.invariant_of-self-else-len-room
invariant_of-self-else-len-room c =
    let s = c.self.inside in
    let r = s.reached in
    let next : ReachedView = record r { rows = r.rows ++ c.args.row ∷ [] } in
    let long = length-append r.rows (c.args.row ∷ []) in
    let now = c.push.ensures in
    let full : r.room ≤ length r.rows + 1 =
    rw (← long) (subst (λ v. v.room ≤ length v.rows) now
    (omega arith)) in (
      rw now (words_push r c.args.row s.words.now s.tables.items s.tables.items c.self.invariant.0 refl (λ k low. refl)
          (λ more. absurd (omega arith))),
      rw now (lists-push r c.args.row s.words.now s.lists.items c.self.invariant.1),
      rw now c.self.invariant.2,
    )

pub fill_with-requires-clause-lists : goal.fill_with-requires-clause-lists
fill_with-requires-clause-lists c =
    let s = c.self.inside in
    let r = s.reached in
    rw c.as_slice.ensures
    (rw (← c.as_mut_slice-then-len-room.ensures.value) at
    (rw (← c.push.ensures) at (lists-push r c.args.row s.words.now s.lists.items c.self.invariant.1)))

pub fill_with-requires-clause-known : goal.fill_with-requires-clause-known
fill_with-requires-clause-known c =
    let s = c.self.inside in
    rw (← c.as_slice.ensures) at
    (subst (λ l. AreKept c.push.new.self.q c.push.new.self.m c.push.new.self.room s.words.now l)
    (sym c.as_mut_slice-then-len-room-2.ensures.value)
    (subst (λ v. AreKept v.q v.m v.room s.words.now s.kept.items) (sym c.push.ensures)
    c.self.invariant.2))
