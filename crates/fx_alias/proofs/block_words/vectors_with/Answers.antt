use Rattle.std.proofs.Common.{rules, ◌≡◌, ◌<◌, ◌+◌, ◌-◌, length}
use Rattle.std.proofs.Common.{slice_index_or, ap, arith}
use Rattle.std.proofs.lemmas.Bool.{cond-true}
use Rattle.fx_designs.specs.Vectors.{vectors_of}
use Rattle.fx_laws.proofs.Tables.{is_order-field}
use Rattle.fx_points.specs.Points.{has}
use Rattle.fx_reduction.proofs.ShortWords.{pattern-length}
use Rattle.fx_vectors.specs.Shape.{dimensions_of}
use Rattle.fx_words.specs.Spreads.{spread}
use Rattle.fx_alias.proofs.Heavier.{heavier}
use Rattle.fx_alias.proofs.block_words.vectors_with.Goals as goal
use Rattle.fx_alias.proofs.block_words.vectors_with.Goals.{After-words_with}

-- the words with the sum are the own words, and one for each vector
sum_words : (c : After-words_with)
    → c.words_with.result
    ≡ slice_index_or c.args.own.now c.args.k 0
    + spread c.args.tally.now.shape.q c.args.tally.now.shape.m
    (vectors_of c.args.tally.now.shape.q c.args.tally.now.shape.m c.args.tally.now.rows) c.args.k c.args.x
sum_words c =
    let tally = c.args.tally.now in
    let d = dimensions_of tally.shape in
    let sums = spread d.q d.m (vectors_of d.q d.m tally.rows) c.args.k c.args.x in
    cc (
      c.words_with.ensures.words,
      heavier d (is_order-field d.q c.requires.order) tally.rows c.args.k c.args.x
          c.requires.room c.requires.weight
          c.requires.point,
      c.requires.own,
    )

pub bounds-own-k : goal.bounds-own-k
bounds-own-k c =
    omega (arith, ap length c.requires.own, pattern-length (dimensions_of c.args.tally.now.shape) c.args.tally.now.rows)

pub offset_bounds-own-k : goal.offset_bounds-own-k
offset_bounds-own-k c =
    let low : c.args.k < length c.args.own.now =
    omega (arith, ap length c.requires.own, pattern-length (dimensions_of c.args.tally.now.shape) c.args.tally.now.rows)
    in
    omega arith

pub overflow_sub-result : goal.overflow_sub-result
overflow_sub-result c = omega (arith, sum_words (goal.at.overflow_sub-result c).After-words_with)

pub returns-clause-count : goal.returns-clause-count
returns-clause-count c =
    let tally = c.args.tally.now in
    let sums =
    spread tally.shape.q tally.shape.m (vectors_of tally.shape.q tally.shape.m tally.rows) c.args.k c.args.x in
    let is : c.words_with.result - slice_index_or c.args.own.now c.args.k 0 ≡ sums =
    omega (arith, sum_words (goal.at.returns-clause-count c).After-words_with) in
    cc (cond-true (has c.args.span.now c.args.x) sums 0 (search rules))
