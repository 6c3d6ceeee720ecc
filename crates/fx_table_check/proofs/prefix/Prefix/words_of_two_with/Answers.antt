use Rattle.std.proofs.Common.{ℕ, ◌≡◌, ◌<◌, ◌++◌, [], ◌∷◌, List, length, arith}
use Rattle.std.proofs.lemmas.List.{length_push}
use Rattle.fx_designs.specs.Vectors.{vectors_of}
use Rattle.fx_words.proofs.Levels.{spread-heavy, length-vectors}
use Rattle.fx_strata.proofs.Spreads.{words_by_spreads}
use Rattle.fx_table_book.specs.Tables.{strata_of}
use Rattle.fx_table_book.proofs.Bases.{field}
use Rattle.fx_table_check.proofs.prefix.Prefix.words_of_two_with.Goals as goal

pub returns-then-from-lt2-clause-words : goal.returns-then-from-lt2-clause-words
returns-then-from-lt2-clause-words c =
    let base = c.args.self.now.base in
    let x = strata_of base in
    let known = c.base-base.ensures.valid in
    let rows : List ℕ = c.args.self.now.rows ++ c.args.row ∷ [] in
    let w : c.base-base.result.w ≡ base.w = cc c.base-base.ensures.base in
    let n : c.base-base.result.n ≡ base.n = cc c.base-base.ensures.base in
    let few : length (vectors_of x.q x.m rows) < 2 =
    omega (arith, length-vectors x.q x.m rows, length_push c.args.self.now.rows c.args.row) in
    cc (
      (words_by_spreads x (field base known) rows 2 known.inside).constant,
      spread-heavy x.q x.m (field base known) _
          2 0 few,
    )
