-- The names of books are short.
use Rattle.std.proofs.Common.{ℕ, ◌≤◌, ◌^◌, ◌++◌, List, [], length, eqb, inl, inr, sym, subst, length-append, arith}
use Rattle.std.specs.Prelude.{codes, decimal, if◌then◌else◌}
use Rattle.std.proofs.lemmas.Bool.{cases_Bool, cond-false, cond-true}
use Rattle.std.proofs.lemmas.Fmt.{length-decimal-le}
use Rattle.std.proofs.Math.Nat.{pow-le-pow_right}
use Rattle.fx_vectors.proofs.Limits.{indexes_fit, order-bounds}
use Rattle.fx_table_book.specs.declared.base.Base.{Base}
use Rattle.fx_table_book.specs.declared.order.Order.{Order}
use Rattle.fx_table_book.specs.declared.order.Order.TheVariants.{FactorsFirst, ChengWuFirst, ChengWuSecond}
use Rattle.fx_table_book.specs.declared.order.Order.TheVariants.{SitterChenFeder, MostClear}
use Rattle.fx_table_book.specs.Tables.{IsBase, shape_of}
use Rattle.fx_table_lines.specs.Listing.{order_text}
use Rattle.fx_program.specs.Tabulating.{book_name, groups_name, whole_name}

short_order : (order : Order) → length (order_text (codes "-") order) ≤ 6
short_order FactorsFirst = omega arith
short_order ChengWuFirst = omega arith
short_order ChengWuSecond = omega arith
short_order SitterChenFeder = omega arith
short_order MostClear = omega arith

module _ (base : Base) (h : IsBase base) where
  few_groups : base.q ^ base.h ≤ 1024
  few_groups =
      let bounds = order-bounds base.q h.shaped.order in
      let up = pow-le-pow_right {n = base.q} (omega (arith, bounds.0)) {i = base.h} {j = base.m} h.inside in
      omega (arith, up, h.shaped.runs)

  short_blocks : length (codes "-blocks-" ++ decimal (base.q ^ base.h)) ≤ 15
  short_blocks =
      let few = few_groups in
      let a = length-decimal-le 4 (base.q ^ base.h) (omega arith) (omega (arith, few)) (omega (arith, few)) in
      omega (arith, a, length-append (codes "-blocks-") (decimal (base.q ^ base.h)))

  short_whole : length (whole_name base) ≤ 15
  short_whole =
      let few = few_groups in
      let last : List ℕ = codes "-" ++ decimal base.w in
      let a = length-decimal-le 4 (base.q ^ base.h) (omega arith) (omega (arith, few)) (omega (arith, few)) in
      let b = length-decimal-le 3 base.w (omega arith) (omega (arith, h.shaped.factors))
      (omega (arith, h.shaped.factors)) in
      omega (arith, a, b, length-append (decimal (base.q ^ base.h)) last)

  short_groups : length (groups_name base) ≤ 15
  short_groups =
      let blocks : List ℕ = codes "-blocks-" ++ decimal (base.q ^ base.h) in
      let own : List ℕ = if eqb base.w 0 then blocks else whole_name base in
      let some : length own ≤ 15 =
      elim (cases_Bool (eqb base.w 0)) [
        | inl none ↦
            subst (λ (l : List ℕ). length l ≤ 15) (sym (cond-true (eqb base.w 0) blocks (whole_name base) none))
            short_blocks
        | inr more ↦
            subst (λ (l : List ℕ). length l ≤ 15) (sym (cond-false (eqb base.w 0) blocks (whole_name base) more))
            short_whole
      ] in
      elim (cases_Bool (eqb base.h 0)) [
        | inl none ↦ subst (λ (l : List ℕ). length l ≤ 15) (sym (cond-true (eqb base.h 0) [] own none)) (omega arith)
        | inr more ↦ subst (λ (l : List ℕ). length l ≤ 15) (sym (cond-false (eqb base.h 0) [] own more)) some
      ]

  pub short_name : (order : Order) → (1 ≤ length (book_name base order)) × (length (book_name base order) ≤ 64)
  short_name order =
      let bounds = order-bounds base.q h.shaped.order in
      let indexes : base.m ≤ 10 = indexes_fit (shape_of base) h.shaped in
      let last : List ℕ = codes ".book" in
      let fourth : List ℕ = order_text (codes "-") order ++ last in
      let groups : List ℕ = groups_name base ++ fourth in
      let third : List ℕ = codes "-" ++ (decimal base.n ++ groups) in
      let second : List ℕ = codes "-" ++ (decimal base.m ++ third) in
      let a = length-decimal-le 3 base.q (omega arith) (omega (arith, bounds.1)) (omega (arith, bounds.1)) in
      let b = length-decimal-le 3 base.m (omega arith) (omega (arith, indexes)) (omega (arith, indexes)) in
      let c =
      length-decimal-le 3 base.n (omega arith) (omega (arith, h.shaped.factors)) (omega (arith, h.shaped.factors)) in
      let d = length-append (decimal base.q) second in
      let e = length-append (decimal base.m) third in
      let f = length-append (decimal base.n) groups in
      let g = length-append (groups_name base) fourth in
      let i = length-append (order_text (codes "-") order) last in
      (omega arith, omega (arith, a, b, c, d, e, f, g, i, short_groups, short_order order))
