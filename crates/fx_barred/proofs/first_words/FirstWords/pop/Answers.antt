use Rattle.std.proofs.Common.{◌∙◌, [], length, slice_index_or, ap, arith}
use Rattle.fx_barred.proofs.Firsts.{words_pop}
use Rattle.fx_barred.proofs.Listing.{lists-pop}
use Rattle.fx_barred.proofs.Tables.{written}
use Rattle.fx_barred.proofs.first_words.FirstWords.pop.Goals as goal

pub invariant_of-self : goal.invariant_of-self
invariant_of-self c =
    let s = c.self.inside in
    let some =
    rw (← c.self.view_is) at c.requires in
    let items = s.lists.items in
    let old = c.as_mut_slice.ensures.value in
    let len = c.drop_lists.ensures.len ∙ ap length old in
    let new = written s.lists.len c.drop_lists.new.lists items len
    (omega arith) in (
      rw c.pop.ensures (words_pop s.reached s.words.now s.tables.items some c.self.invariant.0),
      rw new (rw (← c.pop.ensures) at
          (lists-pop s.reached s.words.now items c.drop_lists.new.lists some c.self.invariant.1 len
          (λ k full. c.drop_lists.ensures.kept k full ∙ ap (λ l. slice_index_or l k []) old)
          (λ l up few.
          rw c.len.ensures.count at (c.drop_lists.ensures.dropped l up few)))),
      rw c.pop.ensures c.self.invariant.2,
    )
