-- The counts of one row more, from the level of the rows before it.
use Rattle.std.proofs.Common.{ℕ, ◌≡◌, ◌<◌, ◌≤◌, ◌+◌, ◌-◌, ◌*◌, ◌^◌, ◌∙◌, List, [], ◌∷◌, ◌++◌, length, slice_index}
use Rattle.std.proofs.Common.{slice_index_or, arith}
use Rattle.std.proofs.lemmas.List.{length-take-le, take_more}
use Rattle.std.proofs.Math.Seq.{take-length}
use Rattle.fx_designs.specs.Galois.{IsField}
use Rattle.fx_designs.specs.Vectors.{vectors_of}
use Rattle.fx_vectors.specs.declared.shape.Shape.{Shape}
use Rattle.fx_vectors.specs.Shape.{IsShape}
use Rattle.fx_vectors.proofs.Limits.{words_fit}
use Rattle.fx_points.proofs.Halves.{power-some}
use Rattle.fx_words.specs.Spreads.{spread, so_far, AreAlike}
use Rattle.fx_words.specs.Tables.{ClassesView, IsLevel, AreOf, difference, but_last}
use Rattle.fx_words.proofs.Levels.{so_far-fits, so_far-one, so_far-more, so_far-zero, spread-none}
use Rattle.fx_words.proofs.Entries.{zero-at, point-at}

pub alike_points : (shape : Shape) (view : ClassesView) → AreOf shape view → (x y : ℕ)
    → AreAlike view.q view.m x y → AreAlike shape.q shape.m x y
alike_points shape view h x y alike =
    rw (← h.indexes) (rw h.levels at alike)

-- with the last row, or another in its place, the counts fit
pub both_fit : (shape : Shape) → IsShape shape → IsField shape.q → (rows : List ℕ) → length rows ≤ shape.s
    → 0 < length rows → (row w x c : ℕ) → x < shape.q ^ shape.m → c ≤ shape.q
    → so_far shape.q shape.m (but_last rows) row w x c < 2 ^ 127
both_fit shape h f rows few some row w x c low hc =
    so_far-fits shape.q shape.m f (but_last rows) row w x c low
    (words_fit shape h (length (but_last rows) + 1)
    (omega (arith, length-take-le (length rows - 1) rows (omega arith)))) hc

-- the rows without the last, and the last
pub with_last : (rows : List ℕ) (last : ℕ) → 0 < length rows → last ≡ slice_index rows (length rows - 1)
    → but_last rows ++ last ∷ [] ≡ rows
with_last rows last some e =
    let up : length rows - 1 + 1 ≡ length rows = omega arith in
    cc (take_more rows (length rows - 1) 0 (omega arith), take-length rows)

pub some_runs : (q m : ℕ) → IsField q → 0 < q ^ m
some_runs q m f = power-some q m (omega arith)

module _ (q m n : ℕ) (f : IsField q) (rows points level : List ℕ) where
  -- at zero
  pub zeros_both : IsLevel q m n (vectors_of q m rows) points level → (kept row i place : ℕ) → kept ≡ length points
      → 0 < kept → slice_index points 0 ≡ 0 → i + 1 < n → place < kept → row < q ^ m
      → AreAlike q m (slice_index points place) row
      → slice_index_or level ((i + 1) * kept) 0 + (q - 1) * slice_index_or level (i * kept + place) 0
      ≡ so_far q m rows row (i + 1) 0 q
  zeros_both h kept row i place ek some zero hi low point alike =
      let vs = vectors_of q m rows in
      let without = zero-at q m n vs points level h _ kept hi ek some zero in
      let with_row =
      point-at q m n vs points level h i kept place (omega arith) ek low ∙ alike rows i in
      let below : i + 1 - 1 ≡ i = omega arith in
      let last : q - 1 + 1 ≡ q = omega arith in
      cc (so_far-zero q m f rows row (i + 1) (q - 1) (omega arith) (omega arith) point)

  -- at a kept point, without the row
  pub sums_start : IsLevel q m n (vectors_of q m rows) points level → (kept row i place : ℕ) → kept ≡ length points
      → i < n → place < kept
      → slice_index_or level (i * kept + place) 0 ≡ so_far q m rows row i (slice_index points place) 1
  sums_start h kept row i place ek hi low =
      cc (point-at q m n _ points level h i kept place hi ek low, so_far-one q m rows row i (slice_index points place))

  -- with one entry more for the row
  pub sums_next : IsLevel q m n (vectors_of q m rows) points level → (kept row i place c moved have : ℕ)
      → kept ≡ length points → 0 < i → i < n → 0 < c → moved < kept
      → AreAlike q m (slice_index points moved) (difference q m (slice_index points place) c row)
      → have ≡ so_far q m rows row i (slice_index points place) c
      → have + slice_index_or level ((i - 1) * kept + moved) 0
      ≡ so_far q m rows row i (slice_index points place) (c + 1)
  sums_next h kept row i place c moved have ek some hi hc low alike so =
      cc (
        point-at q m n _ points level h (i - 1) kept moved (omega arith) ek low,
        alike rows (i - 1),
        so_far-more q m
            rows row i (slice_index points place) c some hc,
      )

  -- at any point, where no entry is not zero
  pub none_both : IsLevel q m n (vectors_of q m rows) points level → (kept row i place x : ℕ) → kept ≡ length points
      → i ≡ 0 → i < n → place < kept → slice_index points place < q ^ m → AreAlike q m (slice_index points place) x
      → slice_index_or level (i * kept + place) 0 ≡ spread q m (vectors_of q m (rows ++ row ∷ [])) i x
  none_both h kept row i place x ek none hi low point alike =
      cc (
        point-at q m n _ points level h i kept place hi ek low,
        spread-none q m f rows row i _ none point,
        alike
            (rows ++ row ∷ []) i,
      )
