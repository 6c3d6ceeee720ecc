use Rattle.std.proofs.Common.{◌≡◌, ◌-◌, ◌*◌, ◌+◌, ◌^◌, ◌∙◌, subst, ap}
use Rattle.fx_designs.specs.Galois.{IsField}
use Rattle.fx_laws.proofs.Tables.{is_order-field}
use Rattle.fx_demands.proofs.Digits.{sum_below}
use Rattle.fx_points.specs.Sums.{SumsView, sum_of}
use Rattle.fx_points.proofs.Multiples.{multiple_at}
use Rattle.fx_points.proofs.sums.Sums.times.Goals as goal
use Rattle.fx_points.proofs.sums.Sums.times.Goals.{After-index}

-- where the multiple stands
place : (c : After-index)
    → c.from.result * c.from-2.result + c.from-3.result
    ≡ (c.args.c - 1) * c.self.inside.field ^ c.self.inside.m + c.args.x
place c =
    let s = c.self.inside in
    cc (c.from.ensures, c.from-2.ensures, c.self.invariant.size_is, c.from-3.ensures)

pub returns-clause-multiple : goal.returns-clause-multiple
returns-clause-multiple c =
    let s = c.self.inside in
    let code = rw (← c.self.view_is) at c.requires.code in
    let point = rw (← c.self.view_is) at c.requires.point in
    multiple_at s.field s.m s.multiples.items c.self.invariant.multiples_len c.self.invariant.multiples_are c.args.c
    c.args.x _ c.index.result.now c.requires.some code point (place (goal.at.returns-clause-multiple c).After-index)
    c.index.ensures
    ∙ ap (λ (v : SumsView). sum_of v.q c.args.c v.m 0 c.args.x) c.self.view_is

pub returns-clause-below : goal.returns-clause-below
returns-clause-below c =
    let f = subst (λ (v : SumsView). IsField v.q) c.self.view_is
    (is_order-field c.self.inside.field c.self.invariant.order) in
    rw (returns-clause-multiple c) (sum_below c.args.self.now.q f c.args.c c.args.self.now.m 0 c.args.x)
