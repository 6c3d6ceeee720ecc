-- Tables side by side, and the rows of a product.
use Rattle.std.proofs.Common.{ℕ, zero, suc, ◌≡◌, ◌<◌, ◌+◌, ◌*◌, ◌/◌, ◌%◌, List, [], ◌∷◌, ◌++◌, All, length, map, get_or}
use Rattle.std.proofs.Common.{refl, sym}
use Rattle.std.proofs.Common.{◌∙◌, ap, ap₂, subst, arith, append-nil}
use Rattle.std.specs.Prelude.{replicate}
use Rattle.std.proofs.lemmas.List.Elements.{All-map}
use Rattle.std.specs.List.{flat_map, range_with_len}
use Rattle.std.proofs.Math.Seq.{get_or-append_seam}
use Rattle.std.proofs.lemmas.List.{get_or-map, length-append, length-map}
use Rattle.std.proofs.lemmas.List.FromFn.{fill_by_all, get_or-map-range_with_len, length-map-range_with_len}
use Rattle.std.proofs.lemmas.Grind.{flat_map-append}
use Rattle.fx_derived.specs.Tables.{TableView}
use Rattle.fx_plan.specs.Parts.{row_across, side_by_side}
use Rattle.fx_plan.specs.Products.{picked, replicated, run_of}
use Rattle.fx_plan.proofs.ProductRows.{row_is, run_low}
use Rattle.fx_plan.proofs.ProductRows as rows

abbrev table : List (List ℕ) → List (List (List ℕ)) → TableView
table names rows = record { names = names; rows = rows }

abbrev names_of : TableView → List (List ℕ)
names_of t = t.names

pub long : (n : ℕ) (ts : List TableView) → length (side_by_side n ts).rows ≡ n
long n ts = length-map-range_with_len _ 0 n

pub across : (n : ℕ) (ts : List TableView) (i : ℕ) → i < n → get_or (side_by_side n ts).rows i [] ≡ row_across ts i
across n ts i low = get_or-map-range_with_len _ 0 n i i [] low (omega arith)

pub alone : (t : TableView) → side_by_side (length t.rows) (t ∷ []) ≡ t
alone t = ap₂ table (append-nil t.names) (sym (fill_by_all (row_across (t ∷ [])) t.rows (length t.rows) [] refl
    (λ k low. sym (append-nil (get_or t.rows k [])))))

pub joined : (n : ℕ) (ps qs : List TableView)
    → side_by_side n (ps ++ qs) ≡ side_by_side n (side_by_side n ps ∷ side_by_side n qs ∷ [])
joined n ps qs =
    let a = side_by_side n ps in
    let b = side_by_side n qs in
    ap₂ table
    (flat_map-append names_of ps qs ∙ ap (λ l. a.names ++ l) (sym (append-nil b.names)))
    (fill_by_all (row_across (a ∷ b ∷ [])) (side_by_side n (ps ++ qs)).rows n [] (long n (ps ++ qs))
    (λ k low. cc (
      across n (ps ++ qs) k low,
      flat_map-append (λ (t : TableView). get_or t.rows k []) ps qs,
      across n ps k low,
      across n qs k low,
      append-nil (get_or b.rows k []),
    )))

names_picked : (by : List ℕ) (ts : List TableView) → flat_map names_of ts ≡ flat_map names_of (map (picked by) ts)
names_picked by [] = refl
names_picked by (t ∷ ts) = cc (names_picked by ts)

picked_at : (by : List ℕ) (t : TableView) (k : ℕ) → k < length by
    → get_or (picked by t).rows k [] ≡ get_or t.rows (get_or by k 0) []
picked_at by t k low = get_or-map (λ (r : ℕ). get_or t.rows r []) by k 0 [] low

across_picked : (by : List ℕ) (k : ℕ) → k < length by → (ts : List TableView)
    → row_across ts (get_or by k 0) ≡ row_across (map (picked by) ts) k
across_picked by k low [] = refl
across_picked by k low (t ∷ ts) =
    cc (picked_at by t k low, across_picked by k low ts)

-- rows picked of tables side by side are picked of each
pub picked_each : (by : List ℕ) (n : ℕ) (ts : List TableView) → All (λ i. i < n) by
    → side_by_side (length by) (map (picked by) ts) ≡ picked by (side_by_side n ts)
picked_each by n ts there =
    cc (
      names_picked by ts,
      fill_by_all (row_across (map (picked by) ts)) (picked by (side_by_side n ts)).rows _ []
          (length-map by (λ r. get_or (side_by_side n ts).rows r []))
          (λ k low. picked_at by (side_by_side n ts) k low ∙ across n ts _ (there k 0 low)
          ∙ across_picked by k low ts),
    )

-- one of some tables of n rows
pub seam_long : (n : ℕ) (tables before after : List TableView) (t : TableView) → tables ≡ before ++ t ∷ after
    → All (λ (x : TableView). length x.rows ≡ n) tables → length t.rows ≡ n
seam_long n tables before after t is all =
    let there : length before < length (before ++ t ∷ after) = omega (arith, length-append before (t ∷ after)) in
    ap (λ x. length x.rows) (sym (get_or-append_seam before t after t))
    ∙ subst (All (λ (x : TableView). length x.rows ≡ n)) is all (length before) t there

-- tables without columns
pub no_columns : (n : ℕ) → side_by_side n [] ≡ table [] (replicate n [])
no_columns n = cc (each 0 n)
  where
    each : (a n : ℕ) → map (row_across []) (range_with_len a n) ≡ replicate n []
    each a zero = refl
    each a (suc n) = cc (each (a + 1) n)

-- as many rows as are picked
pub count : (rows : List ℕ) (t whole : TableView) → picked rows t ≡ whole → length whole.rows ≡ length rows
count rows t whole is =
    cc (length-map rows (λ r. get_or t.rows r []))

-- numbers of numbers of rows
pub picked_low : (by rows : List ℕ) (t whole : TableView) → picked rows t ≡ whole
    → All (λ r. r < length t.rows) rows → All (λ i. i < length whole.rows) by
    → All (λ r. r < length t.rows) (map (λ i. get_or rows i 0) by)
picked_low by rows t whole is low there =
    All-map (λ r. r < length t.rows) (λ i. get_or rows i 0) by
    (λ k d there_k. low (get_or by k d) 0 (rw (count rows t whole is) at (there k d there_k)))

-- rows picked of picked rows
pub picked_twice : (by rows : List ℕ) (t : TableView) → All (λ i. i < length rows) by
    → picked (map (λ i. get_or rows i 0) by) t ≡ picked by (picked rows t)
picked_twice by rows t there = cc (steps by there)
  where
    steps : (by : List ℕ) → All (λ i. i < length rows) by
        → map (λ (r : ℕ). get_or t.rows r []) (map (λ i. get_or rows i 0) by)
        ≡ map (λ (r : ℕ). get_or (picked rows t).rows r []) by
    steps [] there = refl
    steps (i ∷ by) there =
        cc (picked_at rows t i (there 0 0 (omega arith)), steps by (λ k d low. there (suc k) d (omega arith)))

module _ (runs inner outer : TableView) (order : List ℕ)
    (there : All (λ r. r < length runs.rows * length inner.rows * length outer.rows) order) where
  abbrev n : ℕ
  n = length runs.rows

  abbrev each : ℕ
  each = length inner.rows

  abbrev own : TableView
  own = picked (map (run_of each n) order) runs

  abbrev inside : TableView
  inside = picked (map (λ r. r % each) order) inner

  abbrev outside : TableView
  outside = picked (map (λ r. r / each / n) order) outer

  abbrev both : TableView
  both = side_by_side (length order) (own ∷ inside ∷ [])

  pub own_low : All (λ i. i < n) (map (run_of each n) order)
  own_low = All-map (λ i. i < n) _ order
      (λ k d low. run_low runs inner outer _ (there k d low))

  pub inside_low : All (λ i. i < each) (map (λ r. r % each) order)
  inside_low = All-map (λ i. i < each) (λ r. r % each) order
      (λ k d low. rows.inside_low runs inner outer (get_or order k d) (there k d low))

  pub outside_low : All (λ i. i < length outer.rows) (map (λ r. r / each / n) order)
  outside_low = All-map (λ i. i < length outer.rows) (λ r. r / each / n) order
      (λ k d low. rows.outside_low runs inner outer (get_or order k d) (there k d low))

  picked_by : (f : ℕ → ℕ) (t : TableView) (k : ℕ) → k < length order
      → get_or (picked (map f order) t).rows k [] ≡ get_or t.rows (f (get_or order k 0)) []
  picked_by f t k low =
      cc (picked_at (map f order) t k (omega (arith, length-map order f)), get_or-map f order k 0 0 low)

  row_at : (k : ℕ) → k < length order
      → get_or (picked order (replicated runs inner outer)).rows k [] ≡ row_across (both ∷ outside ∷ []) k
  row_at k low =
      let r = get_or order k 0 in
      let first = across _ (own ∷ inside ∷ []) k low
      ∙ ap₂ (λ x y. x ++ y) (picked_by (run_of each n) runs k low)
      (append-nil (get_or inside.rows k []) ∙ picked_by (λ r. r % each) inner k low) in
      cc (
        picked_at order (replicated runs inner outer) k low,
        row_is runs inner outer r (there k 0 low),
        append-nil
            (get_or outside.rows k []),
        picked_by (λ r. r / each / n) outer k low,
      )

  together : side_by_side (length order) (both ∷ outside ∷ []) ≡ picked order (replicated runs inner outer)
  together =
      cc (
        append-nil inner.names,
        append-nil outer.names,
        fill_by_all (row_across (both ∷ outside ∷ []))
            (picked order (replicated runs inner outer)).rows _ []
            (length-map order (λ r. get_or (replicated runs inner outer).rows r [])) row_at,
      )

  -- a product is put together of rows of its tables
  pub product_is : (a b d both : TableView) → a ≡ own → b ≡ inside → d ≡ outside
      → both ≡ side_by_side (length a.rows) (a ∷ b ∷ [])
      → side_by_side (length both.rows) (both ∷ d ∷ []) ≡ picked order (replicated runs inner outer)
  product_is a b d whole ea eb ed ew =
      let many =
      length-map (map (run_of each n) order) (λ r. get_or runs.rows r []) ∙ length-map order (run_of each n) in
      let first : whole ≡ both =
      cc in
      cc (long (length order) (own ∷ inside ∷ []), together)
