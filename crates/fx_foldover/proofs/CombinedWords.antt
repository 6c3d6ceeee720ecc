-- The combined words are the words of the rows with one run index more.
use Rattle.std.proofs.Common.{ℕ, ◌≡◌, ◌<◌, ◌+◌, ◌-◌, ◌/◌, ◌%◌, ◌&&◌, zero, suc, eqb, List, [], ◌∷◌, ◌++◌, length}
use Rattle.std.proofs.Common.{take, get_or, refl, sym, ◌∙◌, ap, arith, add-one}
use Rattle.std.specs.List.{count_by, range_with_len}
use Rattle.std.proofs.lemmas.List.{take_all, take_more}
use Rattle.std.proofs.lemmas.List.FromFn.{get_or-map-range_with_len, length-map-range_with_len}
use Rattle.fx_base.proofs.Lists.{map_agree}
use Rattle.fx_designs.specs.Galois.{digits}
use Rattle.fx_designs.specs.Vectors.{weight, vectors_of}
use Rattle.fx_designs.specs.Runs.{points, is_constant, runs_of}
use Rattle.fx_designs.specs.Patterns.{constant_words, pattern_of}
use Rattle.fx_laws.proofs.CanonicalTest.{rows-vectors}
use Rattle.fx_reduction.proofs.ConstantTests.{constant-words}
use Rattle.fx_words.specs.Spreads.{spread}
use Rattle.fx_words.proofs.Levels.{length-vectors}
use Rattle.fx_words.proofs.Spreads.{words-spread}
use Rattle.fx_foldover.specs.Foldovers.{combined_words, combined_pattern, combined_row, combined_rows}
use Rattle.fx_foldover.specs.Laws.{two_levels}
use Rattle.fx_foldover.proofs.Rules.{two, fold_code, fold_code-below, combined_rules, length-combined_rules}
use Rattle.fx_foldover.proofs.Rules.{combined-runs}

-- the code of the first run index is the lowest digit of the row's number
row_digits : (m f r : ℕ) → digits 2 (suc m) (combined_row f r) ≡ fold_code f ∷ digits 2 m r
row_digits m f r =
    let low = fold_code-below f in
    let first : combined_row f r % 2 ≡ fold_code f = omega arith in
    let rest : combined_row f r / 2 ≡ r = omega arith in
    cc

pub combined_rows-vectors : (m : ℕ) (fold rows : List ℕ)
    → vectors_of 2 (suc m) (combined_rows fold rows) ≡ combined_rules fold (vectors_of 2 m rows)
combined_rows-vectors m [] rows = refl
combined_rows-vectors m (f ∷ fold) [] = refl
combined_rows-vectors m (f ∷ fold) (r ∷ rows) =
    cc (row_digits m f r, combined_rows-vectors m fold rows)

pub length-combined_rows : (fold rows : List ℕ) → length fold ≡ length rows
    → length (combined_rows fold rows) ≡ length rows
length-combined_rows [] [] e = refl
length-combined_rows [] (r ∷ rows) e = absurd (omega arith)
length-combined_rows (f ∷ fold) [] e = absurd (omega arith)
length-combined_rows (f ∷ fold) (r ∷ rows) e = cc (length-combined_rows fold rows (omega arith))

module _ (m : ℕ) (fold : List ℕ) (rules : List (List ℕ)) (k : ℕ) (e : length fold ≡ length rules) where
  abbrev runs : List (List ℕ)
  runs = runs_of 2 (suc m) (combined_rules fold rules)

  words_of_rules : combined_words m fold rules k ≡ constant_words 2 (suc m) (combined_rules fold rules) k
  unfolding combined_words constant_words
  words_of_rules =
      ap (λ xs. count_by (λ u. eqb (weight u) k && is_constant 2 u xs) (points 2 (length rules)))
      (sym (combined-runs m fold rules e))
      ∙ ap (λ n. count_by (λ u. eqb (weight u) k && is_constant 2 u runs) (points 2 n))
      (sym (length-combined_rules fold rules e))

-- the combined words are the words of these rows
pub words_of_rows : (m : ℕ) (fold rows : List ℕ) (k : ℕ) → length fold ≡ length rows
    → combined_words m fold (vectors_of 2 m rows) k
    ≡ constant_words 2 (m + 1) (vectors_of 2 (m + 1) (combined_rows fold rows)) k
words_of_rows m fold rows k e =
    cc (words_of_rules m fold _ k (e ∙ sym (length-vectors 2 m rows)), combined_rows-vectors m fold rows, add-one m)

-- B_k is the count at the sum zero
pub words-counted : (m : ℕ) (fold rows : List ℕ) (k : ℕ) → length fold ≡ length rows
    → combined_words m fold (vectors_of 2 m rows) k
    ≡ spread 2 (m + 1) (vectors_of 2 (m + 1) (combined_rows fold rows)) k 0
words-counted m fold rows k e =
    let vectors = vectors_of 2 (m + 1) (combined_rows fold rows) in
    cc (
      words_of_rows m fold rows k e,
      constant-words 2 _ two vectors
          (rows-vectors 2 (m + 1) two (combined_rows fold rows)) k,
      words-spread 2 (m + 1) vectors k,
    )

module _ (m : ℕ) (fold rows : List ℕ) (e : length fold ≡ length rows) where
  abbrev word_count : ℕ → ℕ
  word_count k =
      constant_words 2 (m + 1) (vectors_of 2 (m + 1) (take (length rows) (combined_rows fold rows))) k / (2 - 1)

  words_at : (k : ℕ) → combined_words m fold (vectors_of 2 m rows) k ≡ word_count k
  words_at k =
      let one : word_count k
      ≡ constant_words 2 (m + 1) (vectors_of 2 (m + 1) (take (length rows) (combined_rows fold rows))) k =
      omega arith in
      cc (
        words_of_rows m fold rows k e,
        (take_all (length rows) (combined_rows fold rows) (omega (arith, length-combined_rows fold rows e))),
      )

  -- the pattern is that of these rows
  pub pattern_of_rows : combined_pattern m fold (vectors_of 2 m rows)
      ≡ pattern_of (two_levels (m + 1) (length rows)) (combined_rows fold rows)
  unfolding combined_pattern pattern_of
  pattern_of_rows =
      cc (
        length-vectors 2 m rows,
        map_agree (combined_words m fold (vectors_of 2 m rows)) word_count words_at
            (range_with_len 1 (length rows)),
      )

pub length-pattern : (m : ℕ) (fold : List ℕ) (rules : List (List ℕ))
    → length (combined_pattern m fold rules) ≡ length rules
unfolding combined_pattern
length-pattern m fold rules = length-map-range_with_len _ 1 _

-- one entry more
pub pattern-more : (m : ℕ) (fold rows : List ℕ) (i : ℕ) → length fold ≡ length rows → i < length rows
    → take (i + 1) (combined_pattern m fold (vectors_of 2 m rows))
    ≡ take i (combined_pattern m fold (vectors_of 2 m rows))
    ++ spread 2 (m + 1) (vectors_of 2 (m + 1) (combined_rows fold rows)) (i + 1) 0 ∷ []
unfolding combined_pattern
pattern-more m fold rows i e low =
    let vectors = vectors_of 2 m rows in
    let whole = combined_pattern m fold vectors in
    let count = length-vectors 2 m rows in
    cc (
      take_more whole i 0 (omega (arith, length-pattern m fold vectors)),
      get_or-map-range_with_len
          (combined_words m fold vectors) 1 (length vectors) i (i + 1) 0 (omega arith)
          (omega arith),
      words-counted m fold rows (i + 1) e,
    )

-- the row at i
row-at : (fold rows : List ℕ) (i : ℕ) → length fold ≡ length rows → i < length rows
    → get_or (combined_rows fold rows) i 0 ≡ combined_row (get_or fold i 0) (get_or rows i 0)
row-at [] rows i e low = absurd (omega arith)
row-at (f ∷ fold) [] i e low = absurd (omega arith)
row-at (f ∷ fold) (r ∷ rows) zero e low = refl
row-at (f ∷ fold) (r ∷ rows) (suc i) e low = row-at fold rows i (omega arith) (omega arith)

-- one row more
pub rows-more : (fold rows : List ℕ) (i : ℕ) → length fold ≡ length rows → i < length rows
    → take i (combined_rows fold rows) ++ combined_row (get_or fold i 0) (get_or rows i 0) ∷ []
    ≡ take (i + 1) (combined_rows fold rows)
rows-more fold rows i e low =
    cc (
      row-at fold rows i e low,
      take_more (combined_rows fold rows) i 0
          (omega (arith, length-combined_rows fold rows e)),
    )
