use Rattle.std.proofs.Common.{◌≡◌, ◌^◌, ◌∙◌, suc, length, arith}
use Rattle.std.proofs.lemmas.List.{get_or_default}
use Rattle.std.proofs.Math.Nat.{pow-succ', mul-le-mul_left}
use Rattle.fx_laws.proofs.Tables.{is_order-field}
use Rattle.fx_barred.proofs.Tables.{power-fits}
use Rattle.fx_barred.proofs.reached.Reached.with_next.Goals as goal

pub overflow_add-result : goal.overflow_add-result
overflow_add-result c =
    let s = c.self.inside in
    let n = length c.self.inside.rows.items in
    let f = is_order-field s.sums.q c.self.invariant.order in
    let space = rw (← c.self.view_is) at c.requires.room in
    let word =
    rw (← c.self.view_is) at c.requires.word in
    let read =
    c.index.ensures ∙ get_or_default s.powers.items c.len.result c.index.result.now 0
    (omega arith) ∙ c.self.invariant.powers_are
    c.len.result (omega arith) in
    let at : c.index.result.now ≡ s.sums.q ^ n = cc c.len.ensures.value in
    let fits =
    power-fits s.sums.q (suc n) s.room (omega arith) (omega arith)
    c.self.invariant.words_fit in
    let up = pow-succ' s.sums.q n in
    let two = mul-le-mul_left (s.sums.q ^ n) f.more_than_one in
    omega arith
