use Rattle.std.proofs.Common.{◌≡◌, ◌≤◌, ◌^◌, ℕ, [], refl, ap, ◌∙◌, subst, arith, IsTrue}
use Rattle.fx_designs.specs.Galois.{is_order, IsField}
use Rattle.fx_laws.proofs.Tables.{is_order-field}
use Rattle.fx_points.specs.Points.{PointsView, IsNoneFrom}
use Rattle.fx_points.specs.Sums.{sum_of}
use Rattle.fx_points.proofs.Scatter.{in-more, in-skip, in-shift}
use Rattle.fx_points.proofs.point_set.PointSet.shift_each.Goals as goal

field_of : (set : PointsView) (q m : ℕ) (known : IsTrue (is_order q)) → q ≡ set.q → IsField set.q
field_of set q m known is = subst IsField is (is_order-field q known)

-- what the loop has put in, once no member is left below q^m
pub returns-in-None-clause-sums : goal.returns-in-None-clause-sums
returns-in-None-clause-sums c y low =
    let set = c.args.self.now in
    let f = field_of set c.self.inside.field c.self.inside.m c.q-known.ensures.known
    (ap (λ (v : PointsView). v.q) c.self.view_is) in
    let before : PointsView = record { q = set.q; m = set.m; numbers = [] } in
    let none = c.in-None.ensures.none in
    let runs = c.requires.known in
    let short : IsNoneFrom set c.loop.from (set.q ^ set.m) =
    record { none = λ z lo hi. none.none z lo (omega arith) } in
    let all = in-skip set.q set.m c.args.x before set c.loop.shifted c.loop.from (set.q ^ set.m)
    c.loop.invariant.members c.loop.invariant.bound short in
    in-shift set.q set.m c.args.x f before set c.loop.shifted (set.q ^ set.m) y runs (λ x. refl) all refl low

pub returns-then-y-size-clause-sums : goal.returns-then-y-size-clause-sums
returns-then-y-size-clause-sums c y low =
    let set = c.args.self.now in
    let f = field_of set c.self.inside.field c.self.inside.m c.q-known.ensures.known
    (ap (λ (v : PointsView). v.q) c.self.view_is) in
    let before : PointsView = record { q = set.q; m = set.m; numbers = [] } in
    let next = c.in-Some.ensures.some in
    let size : c.power-size.result ≡ set.q ^ set.m =
    c.power-size.ensures ∙ ap (λ (v : PointsView). v.q ^ v.m) c.self.view_is in
    let past : set.q ^ set.m ≤ c.in-Some.y = omega arith in
    let short : IsNoneFrom set c.loop.from (set.q ^ set.m) =
    record { none = λ z lo hi. next.between.none z lo (omega arith) } in
    let all = in-skip set.q set.m c.args.x before set c.loop.shifted c.loop.from (set.q ^ set.m)
    c.loop.invariant.members c.loop.invariant.bound short in
    in-shift set.q set.m c.args.x f before set c.loop.shifted (set.q ^ set.m) y c.requires.known (λ x. refl) all refl
    low

pub loop-preserved : goal.loop-preserved
loop-preserved c =
    let set = c.args.self.now in
    let q = set.q in
    let m = set.m in
    let f = field_of set c.self.inside.field c.self.inside.m c.q-known.ensures.known
    (ap (λ (v : PointsView). v.q) c.self.view_is) in
    let before : PointsView = record { q = q; m = m; numbers = [] } in
    let y = c.in-Some.y in
    let next = c.in-Some.ensures.some in
    let size : c.power-size.result ≡ q ^ m = c.power-size.ensures ∙ ap (λ (v : PointsView). v.q ^ v.m) c.self.view_is in
    let total : c.sum_with.result ≡ sum_of q 1 m y c.args.x =
    c.sum_with.ensures.total ∙ ap (λ (v : PointsView). sum_of v.q 1 v.m y c.args.x) c.self.view_is in
    let up =
    in-skip q m c.args.x before set c.loop.shifted c.loop.from y c.loop.invariant.members next.from next.between in
    record {
      levels = c.insert.ensures.shape.0 ∙ c.loop.invariant.levels;
      indexes = c.insert.ensures.shape.1 ∙ c.loop.invariant.indexes;
      members = in-more q m c.args.x f before set c.loop.shifted c.insert.new.self y c.sum_with.result c.requires.known
          up next.within total c.insert.ensures.added;
      count = (let low = next.from in let count = c.loop.invariant.count in omega arith);
      bound = (let low = c.if-y-size.false in omega (arith, size));
    }

pub returns-clause-sums : goal.returns-clause-sums
returns-clause-sums c y low =
    let set = c.args.self.now in
    let f = field_of set c.self.inside.field c.self.inside.m c.q-known.ensures.known
    (ap (λ (v : PointsView). v.q) c.self.view_is) in
    let before : PointsView = record { q = set.q; m = set.m; numbers = [] } in
    let size : c.power-size.result ≡ set.q ^ set.m =
    c.power-size.ensures ∙ ap (λ (v : PointsView). v.q ^ v.m) c.self.view_is in
    let ends : c.loop.from ≡ set.q ^ set.m =
    omega arith in
    in-shift set.q set.m c.args.x f before set c.loop.shifted c.loop.from y c.requires.known (λ x. refl)
    c.loop.invariant.members ends low
