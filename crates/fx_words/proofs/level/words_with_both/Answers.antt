use Rattle.std.proofs.Common.{◌≡◌, ◌<◌, ◌+◌, ◌-◌, ◌*◌, ◌^◌, ◌++◌, ◌∷◌, [], ℕ, List, length, slice_index}
use Rattle.std.proofs.Common.{arith}
use Rattle.std.proofs.lemmas.List.{length_push}
use Rattle.fx_designs.specs.Vectors.{vectors_of}
use Rattle.fx_laws.proofs.Tables.{is_order-field}
use Rattle.fx_vectors.specs.Shape.{dimensions_of}
use Rattle.fx_vectors.proofs.Limits.{words_fit}
use Rattle.fx_words.specs.Spreads.{spread, so_far}
use Rattle.fx_words.proofs.Levels.{so_far-fits, so_far-all, so_far-zero}
use Rattle.fx_words.proofs.Entries.{entry}
use Rattle.fx_words.proofs.Both.{some_runs, with_last}
use Rattle.fx_words.proofs.level.words_with_both.Goals as goal
use Rattle.fx_words.proofs.level.words_with_both.Goals.{After-from}

-- the two counts make that of the longer prefix
total : (c : After-from)
    → c.zeros_with-without.result + (c.from.result - 1) * c.sums_with-with.result
    ≡ so_far c.args.prefix.now.shape.q c.args.prefix.now.shape.m c.args.prefix.now.rows c.args.row (c.args.i + 1) 0
    c.args.prefix.now.shape.q
total c =
    let s = c.args.prefix.now.shape in
    let rows = c.args.prefix.now.rows in
    let valid = c.shape-q.ensures.valid in
    let f = is_order-field s.q valid.shaped.order in
    let q : c.from.result ≡ s.q = cc (c.from.ensures, c.shape-q.ensures.shape) in
    let last : c.row-last.result ≡ slice_index rows (length rows - 1) =
    cc (c.row-last.ensures.row, c.len.ensures.count) in
    let all = with_last rows c.row-last.result c.requires.some last in
    let without : c.zeros_with-without.result ≡ spread s.q s.m (vectors_of s.q s.m rows) (c.args.i + 1) 0 =
    cc c.zeros_with-without.ensures in
    let with_row : c.sums_with-with.result ≡ spread s.q s.m (vectors_of s.q s.m rows) c.args.i c.args.row =
    cc c.sums_with-with.ensures in
    let below : c.args.i + 1 - 1 ≡ c.args.i = omega arith in
    let end : s.q - 1 + 1 ≡ s.q = omega arith in
    cc (so_far-zero s.q s.m f rows c.args.row (c.args.i + 1) (s.q - 1) (omega arith) (omega arith)
    c.requires.row)

fits : (c : After-from)
    → so_far c.args.prefix.now.shape.q c.args.prefix.now.shape.m c.args.prefix.now.rows c.args.row (c.args.i + 1) 0
    c.args.prefix.now.shape.q < 2 ^ 127
fits c =
    let s = c.args.prefix.now.shape in
    let valid = c.shape-q.ensures.valid in
    let f = is_order-field s.q valid.shaped.order in
    so_far-fits s.q s.m f c.args.prefix.now.rows c.args.row (c.args.i + 1) 0 s.q (some_runs s.q s.m f)
    (words_fit s valid.shaped (length c.args.prefix.now.rows + 1) (omega arith)) (omega arith)

pub overflow_mul-from : goal.overflow_mul-from
overflow_mul-from c = omega (arith, total c, fits c)

pub overflow_add-without : goal.overflow_add-without
overflow_add-without c = omega (arith, total c, fits c)

pub returns : goal.returns
returns c =
    let s = c.args.prefix.now.shape in
    let rows = c.args.prefix.now.rows in
    let longer : List ℕ = rows ++ c.args.row ∷ [] in
    let valid = c.shape-q.ensures.valid in
    let f = is_order-field s.q valid.shaped.order in
    let q : c.shape-q.result.q ≡ s.q = cc c.shape-q.ensures.shape in
    cc (
      c.once.ensures,
      total (goal.at.returns c).After-from,
      so_far-all s.q s.m f rows c.args.row (c.args.i + 1) 0
          (some_runs s.q s.m f),
      entry (dimensions_of s) f longer c.args.i (omega (arith, length_push rows c.args.row))
          c.requires.entry,
    )
