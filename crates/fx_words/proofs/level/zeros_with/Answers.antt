use Rattle.std.proofs.Common.{◌≡◌, ◌<◌, ◌+◌, ◌-◌, ◌*◌, ◌^◌, ◌∙◌, slice_index_or, arith}
use Rattle.fx_laws.proofs.Tables.{is_order-field}
use Rattle.fx_words.specs.Spreads.{so_far}
use Rattle.fx_words.specs.Tables.{but_last}
use Rattle.fx_words.proofs.Levels.{so_far-all}
use Rattle.fx_words.proofs.Both.{alike_points, both_fit, some_runs, zeros_both}
use Rattle.fx_words.proofs.level.zeros_with.Goals as goal
use Rattle.fx_words.proofs.level.zeros_with.Goals.{After-from-2}

-- the two counts make that with the row
total : (c : After-from-2)
    → slice_index_or c.args.level.now ((c.args.i + 1) * c.len-kept.result) 0
    + (c.from-2.result - 1) * slice_index_or c.args.level.now (c.args.i * c.len-kept.result + c.from.result) 0
    ≡ so_far c.args.prefix.now.shape.q c.args.prefix.now.shape.m (but_last c.args.prefix.now.rows) c.args.last
    (c.args.i + 1) 0 c.args.prefix.now.shape.q
total c =
    let s = c.args.prefix.now.shape in
    let valid = c.shape-q.ensures.valid in
    let q : c.from-2.result ≡ s.q = cc (c.from-2.ensures, c.shape-q.ensures.shape) in
    let place = c.from.ensures in
    cc (zeros_both s.q s.m _ (is_order-field s.q valid.shaped.order) (but_last c.args.prefix.now.rows)
    c.args.classes.now.points c.args.level.now
    c.requires.counts c.len-kept.result c.args.last c.args.i c.place.result c.len-kept.ensures.count
    c.len-kept.ensures.some c.len-kept.ensures.zero (omega arith)
    (omega arith) c.requires.last
    (alike_points s c.args.classes.now c.requires.classes _ _ c.place.ensures.alike))

fits : (c : After-from-2)
    → so_far c.args.prefix.now.shape.q c.args.prefix.now.shape.m (but_last c.args.prefix.now.rows) c.args.last
    (c.args.i + 1) 0 c.args.prefix.now.shape.q < 2 ^ 127
fits c =
    let s = c.args.prefix.now.shape in
    let valid = c.shape-q.ensures.valid in
    let f = is_order-field s.q valid.shaped.order in
    both_fit s valid.shaped f c.args.prefix.now.rows c.requires.few c.requires.some c.args.last (c.args.i + 1) 0 s.q
    (some_runs s.q s.m f) (omega arith)

pub overflow_mul-result : goal.overflow_mul-result
overflow_mul-result c = omega (arith, total c, fits c)

pub overflow_add-result : goal.overflow_add-result
overflow_add-result c = omega (arith, total c, fits c)

pub returns : goal.returns
returns c =
    let s = c.args.prefix.now.shape in
    let valid = c.shape-q.ensures.valid in
    let f = is_order-field s.q valid.shaped.order in
    total (goal.at.returns c).After-from-2
    ∙ so_far-all s.q s.m f (but_last c.args.prefix.now.rows) c.args.last (c.args.i + 1) 0 (some_runs s.q s.m f)
