use Rattle.std.proofs.Common.{◌≡◌, ◌<◌, ◌^◌, ◌-◌, ◌∙◌, ℕ, List, length, get_or, ap, arith}
use Rattle.std.specs.List.{AllByRecursion}
use Rattle.std.proofs.lemmas.List.{take_all, get_or-map, length-map}
use Rattle.fx_laws.proofs.Tables.{is_order-field}
use Rattle.fx_derived.specs.Codes.{codes_at, derived_code}
use Rattle.fx_derived.proofs.Digits.{step, code_below, codes_low}
use Rattle.fx_derived.proofs.balanced.level_at.Goals as goal
use Rattle.fx_derived.proofs.balanced.level_at.Goals.{After-row-x}

abbrev codes : After-row-x → List ℕ
codes c = codes_at c.args.places.now c.row-x.result.now

long : (c : After-row-x) → length (codes c) ≡ length c.args.places.now
long c = length-map c.args.places.now (λ p. get_or c.row-x.result.now (p - 1) 0)

order_is : (c : After-row-x) → c.from-q.result ≡ c.args.runs.now.shape.q
order_is c = cc (c.from-q.ensures, c.shape.ensures.shape)

some : (c : After-row-x) → 0 < c.from-q.result
some c = let f = is_order-field c.args.runs.now.shape.q c.shape.ensures.valid.shaped.order in
    omega (arith, order_is c)

each : (c : After-row-x) → AllByRecursion (λ x. x < c.from-q.result) (codes c)
each c = codes_low c.from-q.result c.row-x.result.now c.args.places.now (some c)
    (rw (order_is c) c.row-x.ensures.vector.codes)

fits : (c : After-row-x) → c.from-q.result ^ length (codes c) < 2 ^ 64
fits c = rw (order_is c, long c) c.requires.fits

pub overflow_mul-level : goal.overflow_mul-level
overflow_mul-level c =
    let w = (goal.at.overflow_mul-level c).After-row-x in
    let s = step c.from-q.result (codes w) c.loop-place.place-index (some w)
    (omega (arith, long w)) (each w) c.loop-place.level c.loop-place.invariant in
    omega (arith, fits w)

pub overflow_add-level : goal.overflow_add-level
overflow_add-level c =
    let w = (goal.at.overflow_add-level c).After-row-x in
    let s = step c.from-q.result (codes w) c.loop-place.place-index (some w)
    (omega (arith, long w)) (each w) c.loop-place.level c.loop-place.invariant in
    let code : c.from-in-loop-place.result ≡ get_or (codes w) c.loop-place.place-index 0 =
    cc (
      c.from-in-loop-place.ensures,
      c.code.ensures,
      c.from.ensures,
      get_or-map
          (λ p. get_or c.row-x.result.now (p - 1) 0) c.args.places.now c.loop-place.place-index 0 0
          c.loop-place-test.true,
    ) in
    rw code (omega (arith, fits w))

pub loop-place-preserved : goal.loop-place-preserved
loop-place-preserved c =
    let w = (goal.at.loop-place-preserved c).After-row-x in
    let s = step c.from-q.result (codes w) c.loop-place.place-index (some w)
    (omega (arith, long w)) (each w) c.loop-place.level c.loop-place.invariant in
    let code : c.from-in-loop-place.result ≡ get_or (codes w) c.loop-place.place-index 0 =
    cc (
      c.from-in-loop-place.ensures,
      c.code.ensures,
      c.from.ensures,
      get_or-map
          (λ p. get_or c.row-x.result.now (p - 1) 0) c.args.places.now c.loop-place.place-index 0 0
          c.loop-place-test.true,
    ) in
    rw code s.0

pub returns-clause-level : goal.returns-clause-level
returns-clause-level c =
    let w = (goal.at.returns-clause-level c).After-row-x in
    c.loop-place.invariant ∙ ap (derived_code c.from-q.result)
    (take_all c.loop-place.place-index (codes w) (omega (arith, long w)))
    ∙ rw (order_is w)
    (cc c.row-x.ensures.row)

pub returns-clause-below : goal.returns-clause-below
returns-clause-below c =
    let w = (goal.at.returns-clause-below c).After-row-x in
    let is : c.loop-place.level ≡ derived_code c.from-q.result (codes w) =
    cc (c.loop-place.invariant, take_all c.loop-place.place-index (codes w) (omega (arith, long w))) in
    let below = code_below c.from-q.result _ (each w) in
    let top : c.from-q.result ^ length (codes w) ≡ c.args.runs.now.shape.q ^ length c.args.places.now =
    rw (order_is w, long w)
    (cc (long w)) in
    omega arith
