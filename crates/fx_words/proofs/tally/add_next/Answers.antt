use Rattle.std.proofs.Common.{◌≡◌, ◌<◌, ◌+◌, ◌-◌, ◌*◌, ◌^◌, ◌∙◌, length, take, slice_index, slice_index_or}
use Rattle.std.proofs.Common.{ap, arith}
use Rattle.std.proofs.lemmas.List.{length-take-le}
use Rattle.fx_laws.proofs.Tables.{is_order-field}
use Rattle.fx_vectors.proofs.Limits.{words_fit}
use Rattle.fx_words.specs.Spreads.{so_far}
use Rattle.fx_words.proofs.Counts.{put}
use Rattle.fx_words.proofs.Levels.{so_far-fits}
use Rattle.fx_words.proofs.Steps.{places_of, place_lighter, place_to, bound_at, with_entry, alike_in_shape}
use Rattle.fx_words.proofs.Steps.{runs_in_shape}
use Rattle.fx_words.proofs.tally.add_next.Goals as goal

pub bounds-counts-lighter : goal.bounds-counts-lighter
bounds-counts-lighter c =
    let s = c.args.prefix.now.shape in
    let points = c.args.classes.now.points in
    let made = c.args.made.now in
    let k = c.args.k in
    let w = slice_index_or made (k + 1) 0 in
    bound_at s points c.args.prefix.now.rows c.loop-j.counts made c.loop-j.invariant.before k (w - 1) c.from.result _
    (omega arith)
    (omega arith) (rw (← c.from.ensures) at (c.moves-moves.ensures.below c.loop-j.j (omega arith)))
    (place_lighter s points k _ _
    (places_of s c.shape.result points c.level_size-size.result c.len-kept.result c.level_size-size.ensures.size
    c.shape.ensures.shape c.len-kept.ensures.count) w c.from.result)

pub bounds-counts-to : goal.bounds-counts-to
bounds-counts-to c =
    let s = c.args.prefix.now.shape in
    let points = c.args.classes.now.points in
    let made = c.args.made.now in
    let k = c.args.k in
    let w = slice_index_or made (k + 1) 0 in
    bound_at s points c.args.prefix.now.rows c.loop-j.counts made c.loop-j.invariant.before (k + 1) w c.loop-j.j _
    (omega arith)
    (omega arith) (omega arith)
    (place_to s points k _ _
    (places_of s c.shape.result points c.level_size-size.result c.len-kept.result c.level_size-size.ensures.size
    c.shape.ensures.shape c.len-kept.ensures.count) w c.loop-j.j c.requires.some)

pub bounds-counts-to-in-loop-j : goal.bounds-counts-to-in-loop-j
bounds-counts-to-in-loop-j c =
    let s = c.args.prefix.now.shape in
    let points = c.args.classes.now.points in
    let made = c.args.made.now in
    let k = c.args.k in
    let w = slice_index_or made (k + 1) 0 in
    bound_at s points c.args.prefix.now.rows c.loop-j.counts made c.loop-j.invariant.before (k + 1) w c.loop-j.j _
    (omega arith)
    (omega arith) (omega arith)
    (place_to s points k _ _
    (places_of s c.shape.result points c.level_size-size.result c.len-kept.result c.level_size-size.ensures.size
    c.shape.ensures.shape c.len-kept.ensures.count) w c.loop-j.j c.requires.some)

pub overflow_add-counts-in-loop-j-2 : goal.overflow_add-counts-in-loop-j-2
overflow_add-counts-in-loop-j-2 c =
    let s = c.args.prefix.now.shape in
    let points = c.args.classes.now.points in
    let rows = c.args.prefix.now.rows in
    let made = c.args.made.now in
    let k = c.args.k in
    let w = slice_index_or made (k + 1) 0 in
    let at = places_of s c.shape.result points c.level_size-size.result c.len-kept.result c.level_size-size.ensures.size
    c.shape.ensures.shape c.len-kept.ensures.count in
    let low : c.loop-j.j < length points = omega arith in
    let moved =
    rw (← c.from.ensures) at (c.moves-moves.ensures.below c.loop-j.j low) in
    let alike =
    alike_in_shape s c.args.classes.now c.requires.classes (slice_index points c.from.result)
    (slice_index points c.loop-j.j) c.args.c c.args.row
    (rw (← c.from.ensures) at (c.moves-moves.ensures.alike c.loop-j.j low)) in
    let total : slice_index_or c.loop-j.counts
    (k * c.level_size-size.result + (w - 1) * c.len-kept.result + c.len-kept.result + c.level_size-size.result
    + c.loop-j.j) 0
    + slice_index_or c.loop-j.counts (k * c.level_size-size.result + (w - 1) * c.len-kept.result + c.from.result) 0
    ≡ so_far s.q s.m (take k rows) c.args.row w (slice_index points c.loop-j.j) (c.args.c + 1) =
    with_entry s points rows c.loop-j.counts made c.loop-j.invariant.before k c.args.row w c.args.c c.loop-j.j
    c.from.result _ _ (omega arith) c.requires.some c.requires.known c.requires.entry low moved
    alike (place_lighter s points k _ _ at w c.from.result)
    (ap (λ k. slice_index_or c.loop-j.counts k 0) (place_to s points k _ _ at w c.loop-j.j c.requires.some) ∙
    c.loop-j.invariant.others c.loop-j.j c.requires.entry (omega arith) low) in
    let valid = c.shape.ensures.valid in
    let point : slice_index points c.loop-j.j < s.q ^ s.m =
    (let below = c.len-kept.ensures.below c.loop-j.j low in
    omega (arith, runs_in_shape s c.args.classes.now c.requires.classes)) in
    let fits =
    so_far-fits s.q s.m (is_order-field s.q valid.shaped.order) (take k rows) c.args.row w _ (c.args.c + 1) point
    (words_fit s valid.shaped (length (take k rows) + 1)
    (omega (
      arith,
      length-take-le k rows
          (omega arith),
    ))) (omega arith) in
    omega arith

pub loop-j-preserved : goal.loop-j-preserved
loop-j-preserved c =
    let s = c.args.prefix.now.shape in
    let points = c.args.classes.now.points in
    let rows = c.args.prefix.now.rows in
    let made = c.args.made.now in
    let k = c.args.k in
    let w = slice_index_or made (k + 1) 0 in
    let at = places_of s c.shape.result points c.level_size-size.result c.len-kept.result c.level_size-size.ensures.size
    c.shape.ensures.shape c.len-kept.ensures.count in
    let low : c.loop-j.j < length points = omega arith in
    let moved =
    rw (← c.from.ensures) at (c.moves-moves.ensures.below c.loop-j.j low) in
    let alike =
    alike_in_shape s c.args.classes.now c.requires.classes (slice_index points c.from.result)
    (slice_index points c.loop-j.j) c.args.c c.args.row
    (rw (← c.from.ensures) at (c.moves-moves.ensures.alike c.loop-j.j low)) in
    let total : slice_index_or c.loop-j.counts
    (k * c.level_size-size.result + (w - 1) * c.len-kept.result + c.len-kept.result + c.level_size-size.result
    + c.loop-j.j) 0
    + slice_index_or c.loop-j.counts (k * c.level_size-size.result + (w - 1) * c.len-kept.result + c.from.result) 0
    ≡ so_far s.q s.m (take k rows) c.args.row w (slice_index points c.loop-j.j) (c.args.c + 1) =
    with_entry s points rows c.loop-j.counts made c.loop-j.invariant.before k c.args.row w c.args.c c.loop-j.j
    c.from.result _ _ (omega arith) c.requires.some c.requires.known c.requires.entry low moved
    alike (place_lighter s points k _ _ at w c.from.result)
    (ap (λ k. slice_index_or c.loop-j.counts k 0) (place_to s points k _ _ at w c.loop-j.j c.requires.some) ∙
    c.loop-j.invariant.others c.loop-j.j c.requires.entry (omega arith) low) in
    put s points rows made k c.args.row c.loop-j.counts w _ c.args.c c.loop-j.j _ _ c.loop-j.invariant
    c.requires.room (omega arith) c.requires.weight low (place_to s points k _ _ at w c.loop-j.j c.requires.some)
    total
