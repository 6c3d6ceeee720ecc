use Rattle.std.proofs.Common.{◌≡◌, ◌+◌, ◌*◌, ◌∙◌, length, slice_index_or, ap, arith}
use Rattle.std.proofs.lemmas.List.{get_or_default}
use Rattle.fx_points.specs.Points.{has, no_points}
use Rattle.fx_barred.specs.Reach.{reaches}
use Rattle.fx_barred.proofs.Tables.{place-below}
use Rattle.fx_barred.proofs.reached.Reached.points.Goals as goal

pub returns : goal.returns
returns c x low =
    let is = c.self.view_is in
    let point =
    rw (← is) at low in
    let left = rw (← is) at c.requires.left in
    let h = c.self.invariant.holds (length c.self.inside.rows.items) c.args.left x (omega arith) left point in
    let at : c.index.result.now
    ≡ slice_index_or c.self.inside.sets.items
    (length c.self.inside.rows.items * (c.self.inside.most + 1) + c.args.left) no_points =
    (let there = place-below _ c.self.inside.room c.args.left c.self.inside.most
    c.self.invariant.within left in
    let is_at : c.place.result ≡ length c.self.inside.rows.items * (c.self.inside.most + 1) + c.args.left =
    cc (c.place.ensures, c.len.ensures.value) in
    c.index.ensures ∙ ap (λ k. slice_index_or c.self.inside.sets.items k c.index.result.now) is_at ∙ get_or_default
    c.self.inside.sets.items _ c.index.result.now no_points (omega arith)) in
    ap (λ s. has s x) at ∙ h ∙ ap (λ v. reaches v.q v.m v.rows (length v.rows) c.args.left x) is
