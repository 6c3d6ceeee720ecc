use Rattle.std.proofs.Common.{◌≡◌, ◌<◌, ◌+◌, ◌-◌, ◌*◌, ◌^◌, ◌++◌, ◌∷◌, [], length, slice_index}
use Rattle.std.proofs.Common.{slice_index_or, arith}
use Rattle.fx_laws.proofs.Tables.{is_order-field}
use Rattle.fx_words.specs.Spreads.{so_far, AreAlike}
use Rattle.fx_words.specs.Tables.{but_last}
use Rattle.fx_words.proofs.Levels.{so_far-all}
use Rattle.fx_words.proofs.Steps.{alike_in_shape, runs_in_shape}
use Rattle.fx_words.proofs.Both.{alike_points, both_fit, none_both, sums_next}
use Rattle.fx_words.proofs.level.sums_with.Goals as goal
use Rattle.fx_words.proofs.level.sums_with.Goals.{After-from}

pub returns-then-i-eq0 : goal.returns-then-i-eq0
returns-then-i-eq0 c =
    let s = c.args.prefix.now.shape in
    let v = c.args.classes.now in
    let valid = c.shape-q.ensures.valid in
    let place = c.from-place.ensures in
    let low : c.from-place.result < length v.points = omega arith in
    let point : slice_index v.points c.from-place.result < s.q ^ s.m =
    (let below = c.len-kept.ensures.below c.from-place.result low in
    omega (arith, runs_in_shape s v c.requires.classes)) in
    let alike : AreAlike s.q s.m (slice_index v.points c.from-place.result) c.args.x =
    rw place (alike_points s v c.requires.classes _ _ c.place.ensures.alike) in
    none_both s.q s.m _ (is_order-field s.q valid.shaped.order) (but_last c.args.prefix.now.rows) v.points
    c.args.level.now c.requires.counts c.len-kept.result c.args.last
    c.args.i c.from-place.result c.args.x c.len-kept.ensures.count c.if-i-eq0.true (omega arith)
    (omega arith) point alike

-- with one entry more
total : (c : After-from)
    → c.loop-c.count + slice_index_or c.args.level.now ((c.args.i - 1) * c.len-kept.result + c.from.result) 0
    ≡ so_far c.args.prefix.now.shape.q c.args.prefix.now.shape.m (but_last c.args.prefix.now.rows) c.args.last
    c.args.i (slice_index c.args.classes.now.points c.from-place.result) (c.loop-c.c + 1)
total c =
    let s = c.args.prefix.now.shape in
    let v = c.args.classes.now in
    let valid = c.shape-q.ensures.valid in
    let low : c.from-place.result < length v.points = omega arith in
    let moved =
    rw (← c.from.ensures) at (c.moves.ensures.below c.from-place.result low) in
    let alike =
    alike_in_shape s v c.requires.classes (slice_index v.points c.from.result)
    (slice_index v.points c.from-place.result) c.loop-c.c c.args.last
    (rw (← c.from.ensures) at (c.moves.ensures.alike c.from-place.result low)) in
    sums_next s.q s.m _ (is_order-field s.q valid.shaped.order) (but_last c.args.prefix.now.rows) v.points
    c.args.level.now c.requires.counts
    c.len-kept.result c.args.last c.args.i c.from-place.result c.loop-c.c c.from.result c.loop-c.count
    c.len-kept.ensures.count (omega arith) (omega arith) (omega arith)
    (omega arith) alike c.loop-c.invariant

pub overflow_add-count-in-loop-c : goal.overflow_add-count-in-loop-c
overflow_add-count-in-loop-c c =
    let s = c.args.prefix.now.shape in
    let v = c.args.classes.now in
    let valid = c.shape-q.ensures.valid in
    let q : c.shape-q.result.q ≡ s.q = cc c.shape-q.ensures.shape in
    let point : slice_index v.points c.from-place.result < s.q ^ s.m =
    (let below = c.len-kept.ensures.below c.from-place.result (omega arith) in
    omega (arith, runs_in_shape s v c.requires.classes)) in
    let fits =
    both_fit s valid.shaped (is_order-field s.q valid.shaped.order) c.args.prefix.now.rows c.requires.few
    c.requires.some c.args.last c.args.i
    _ (c.loop-c.c + 1) point (omega arith) in
    omega (arith, total (goal.at.overflow_add-count-in-loop-c c).After-from)

pub loop-c-preserved : goal.loop-c-preserved
loop-c-preserved c = total (goal.at.loop-c-preserved c).After-from

pub returns : goal.returns
returns c =
    let s = c.args.prefix.now.shape in
    let v = c.args.classes.now in
    let rows = but_last c.args.prefix.now.rows in
    let valid = c.shape-q.ensures.valid in
    let f = is_order-field s.q valid.shaped.order in
    let q : c.shape-q.result.q ≡ s.q = cc c.shape-q.ensures.shape in
    let place = c.from-place.ensures in
    let point : slice_index v.points c.from-place.result < s.q ^ s.m =
    (let below = c.len-kept.ensures.below c.from-place.result (omega arith) in
    omega (arith, runs_in_shape s v c.requires.classes)) in
    let end : c.loop-c.c ≡ s.q =
    omega arith in
    let alike : AreAlike s.q s.m (slice_index v.points c.from-place.result) c.args.x =
    rw place (alike_points s v c.requires.classes _ _ c.place.ensures.alike) in
    cc (
      c.loop-c.invariant,
      so_far-all s.q s.m f rows c.args.last c.args.i _ point,
      alike (rows ++ c.args.last ∷ [])
          c.args.i,
    )
