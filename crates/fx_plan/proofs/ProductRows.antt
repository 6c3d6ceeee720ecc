-- The rows of a product, by their numbers.
use Rattle.std.proofs.Common.{ℕ, zero, suc, ◌≡◌, ◌<◌, ◌≤◌, ◌+◌, ◌*◌, ◌/◌, ◌%◌, true, [], ◌++◌, length}
use Rattle.std.proofs.Common.{get_or, ap, arith, mod-lt, div-lt_iff_lt-mul}
use Rattle.std.proofs.Math.Nat.{div-add-mod, mul-le-mul_left}
use Rattle.fx_derived.specs.Tables.{TableView, crossed}
use Rattle.fx_derived.proofs.Pairing.{length-pairs, pair_at}
use Rattle.fx_plan.specs.Products.{replicated}

-- where there is a row, there are runs, and rows that each of them is repeated by
pub some_of : (n each all r : ℕ) → r < n * each * all → (0 < n) × (0 < each)
some_of zero each all r h = absurd (omega arith)
some_of (suc n) zero all r h = absurd (omega arith)
some_of (suc n) (suc each) all r h = (omega arith, omega arith)

module _ (runs inner outer : TableView) where
  abbrev n : ℕ
  n = length runs.rows

  abbrev each : ℕ
  each = length inner.rows

  abbrev all : ℕ
  all = length outer.rows

  module _ (r : ℕ) (there : r < n * each * all) where
    some_runs : 0 < n
    some_runs = (some_of n each all r there).0

    some_inside : 0 < each
    some_inside = (some_of n each all r there).1

    pub inside_low : r % each < each
    inside_low = mod-lt r some_inside

    pub run_low : (r / each) % n < n
    run_low = mod-lt (r / each) some_runs

    groups_low : r / each < all * n
    groups_low = (div-lt_iff_lt-mul {k = each} {x = r} {y = all * n} some_inside).1 (omega arith)

    pub outside_low : r / each / n < all
    outside_low = (div-lt_iff_lt-mul {k = n} {x = r / each} {y = all} some_runs).1 groups_low

    number_is : r ≡ r / each / n * (n * each) + ((r / each) % n * each + r % each)
    number_is =
        let a = r / each in
        let one = div-add-mod r each in
        let three = ap (λ (x : ℕ). each * x) (div-add-mod a n) in
        omega arith

    -- row r: that of its run, of the first table and of the second
    pub row_is : get_or (replicated runs inner outer).rows r []
        ≡ (get_or runs.rows ((r / each) % n) [] ++ get_or inner.rows (r % each) [])
        ++ get_or outer.rows (r / each / n) []
    row_is =
        let rows = (crossed true runs inner).rows in
        let o = r / each / n in
        let k = (r / each) % n in
        let i = r % each in
        let long = length-pairs (λ x y. x ++ y) inner.rows runs.rows in
        let spot : r ≡ o * length rows + (k * each + i) =
        cc number_is in
        cc (
          pair_at (λ y x. x ++ y) rows outer.rows o (k * each + i) [] [] [] outside_low
              (let a = pair_low in omega arith),
          pair_at (λ x y. x ++ y) inner.rows runs.rows k i [] [] [] run_low
              inside_low,
        )
      where
        pair_low : (r / each) % n * each + r % each < n * each
        pair_low =
            let above : (r / each) % n + 1 ≤ n = (let a = run_low in omega arith) in
            let wide = mul-le-mul_left each above in
            let b = inside_low in
            omega arith
