use Rattle.std.proofs.Common.{◌≡◌, ◌<◌, ◌≤◌, ◌+◌, ◌-◌, ◌*◌, ◌^◌, ◌∙◌, suc, length, slice_index}
use Rattle.std.proofs.Common.{mul-le-mul_right, sym, arith}
use Rattle.std.proofs.lemmas.List.{get_or_default}
use Rattle.fx_base.proofs.Numbers.{add_one-mul}
use Rattle.fx_barred.proofs.first_words.FirstWords.first.Goals as goal

pub returns-else-found-eq0-clause-some : goal.returns-else-found-eq0-clause-some
returns-else-found-eq0-clause-some c =
    let s = c.self.inside in
    let r = s.reached in
    let n = length r.rows in
    let size = r.q ^ r.m in
    let y = c.minus.result in
    let found = c.index-found.result.now in
    let room =
    rw (← c.self.view_is) at c.requires.room in
    let place : c.len.result * c.from-size.result + c.from.result ≡ n * size + y =
    cc (c.len.ensures.count, c.from-size.ensures, c.size.ensures.points, c.from.ensures) in
    let wide = mul-le-mul_right size (let low : n + 1 ≤ r.room = omega arith in low) in
    let next = add_one-mul n size in
    let there : n * size + y < length s.tables.items =
    omega arith in
    let read : found ≡ slice_index s.tables.items (n * size + y) =
    cc (
      c.index-found.ensures,
      get_or_default s.tables.items
          _ found 0 there,
    ) in
    let up : found ≡ suc (found - 1) = omega arith in
    let first =
    (c.self.invariant.0.first n (omega arith) room).some y (found - 1) c.minus.ensures.below (sym read ∙ up) in
    let at =
    rw c.minus.ensures.negative at first in
    rw (← c.self.view_is) at
