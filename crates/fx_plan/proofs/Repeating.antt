-- How often a run comes in the rows of a plan.
use Rattle.std.proofs.Common.{ℕ, ◌≡◌, ◌<◌, ◌+◌, ◌*◌, ◌/◌, ◌%◌, ◌^◌, zero, suc, cond, eqb, [], ◌∷◌}
use Rattle.std.proofs.Common.{◌++◌, length, refl, ◌∙◌, ap, arith, All, mod-lt}
use Rattle.std.specs.List.{sum_by, range_with_len}
use Rattle.std.proofs.lemmas.Nat.{div-mul-add, mod-mul-add}
use Rattle.std.proofs.lemmas.List.FromFn.{length-range_with_len}
use Rattle.std.proofs.lemmas.List.Sums.{sum_by-append, sum_by-cons}
use Rattle.fx_base.proofs.Ranges.{range_push}
use Rattle.fx_laws.proofs.Sums.{sum_by-constant, sum_by-pick, sum_by-same}
use Rattle.fx_laws.proofs.Tables.{is_order-field}
use Rattle.fx_derived.specs.Tables.{TableView}
use Rattle.fx_outputs.specs.declared.output.OutputSpec.{OutputSpec}
use Rattle.fx_outputs.specs.declared.shuffle.Shuffle.{Shuffle}
use Rattle.fx_outputs.specs.declared.shuffle.Shuffle.TheVariants.{Kept, Default, Seed}
use Rattle.fx_runs.specs.Runs.{RunsView, AreRuns}
use Rattle.fx_runs.specs.RunBlocks.{block_of}
use Rattle.fx_runs.proofs.Steps.{number_in}
use Rattle.fx_plan.specs.Plans.{Arrangement, arranged}
use Rattle.fx_plan.specs.Products.{arrangement_of, run_of}
use Rattle.fx_plan.proofs.ProductRows.{some_of}
use Rattle.fx_plan.proofs.Totals.{order_total}

range_parts : (a n k : ℕ) → range_with_len a (n + k) ≡ range_with_len a n ++ range_with_len (a + n) k
range_parts a zero k =
    let all : zero + k ≡ k = omega arith in
    let from : a ≡ a + zero = omega arith in
    cc
range_parts a (suc n) k =
    let all : suc n + k ≡ suc (n + k) = omega arith in
    let from : a + 1 + n ≡ a + suc n = omega arith in
    cc (range_parts (a + 1) n k)

-- numbers that are moved
moved : (f : ℕ → ℕ) (c a n : ℕ) → sum_by f (range_with_len (c + a) n) ≡ sum_by (λ x. f (c + x)) (range_with_len a n)
moved f c a zero = refl
moved f c a (suc n) =
    let next : c + a + 1 ≡ c + (a + 1) = omega arith in
    cc (
      sum_by-cons f (c + a) (range_with_len (c + a + 1) n),
      moved f c (a + 1) n,
      sum_by-cons (λ x. f (c + x)) a
          (range_with_len (a + 1) n),
    )

-- the sum over the numbers in part n of equal parts
part : (f : ℕ → ℕ) (size n : ℕ)
    → sum_by f (range_with_len (n * size) size) ≡ sum_by (λ x. f (n * size + x)) (range_with_len 0 size)
part f size n =
    let from : n * size ≡ n * size + 0 = omega arith in
    cc (moved f (n * size) 0 size)

parts_more : (f : ℕ → ℕ) (size n : ℕ)
    → sum_by f (range_with_len 0 (suc n * size))
    ≡ sum_by f (range_with_len 0 (n * size)) + sum_by (λ x. f (n * size + x)) (range_with_len 0 size)
parts_more f size n =
    let e : suc n * size ≡ n * size + size = omega arith in
    let from : 0 + n * size ≡ n * size = omega arith in
    cc (
      range_parts 0 (n * size) size,
      sum_by-append f (range_with_len 0 (n * size))
          (range_with_len (0 + n * size) size),
      part f size n,
    )

-- each number so many times in succession
in_succession : (g : ℕ → ℕ) (each n : ℕ)
    → sum_by (λ r. g (r / each)) (range_with_len 0 (n * each)) ≡ each * sum_by g (range_with_len 0 n)
in_succession g each zero =
    let none : 0 * each ≡ 0 = omega arith in
    let left : 0 ≡ each * 0 = omega arith in
    ap (λ x. sum_by (λ r. g (r / each)) (range_with_len 0 x)) none ∙ left
in_succession g each (suc n) =
    let same =
    sum_by-same (λ x. g ((n * each + x) / each)) (λ x. g n) 0 each
    (λ x low high. cc (div-mul-add n each x (omega arith)))
    ∙ sum_by-constant (g n) (range_with_len 0 each) ∙ ap (λ l. l * g n) (length-range_with_len 0 each) in
    let up : suc n ≡ n + 1 = omega arith in
    let last : sum_by g (n ∷ []) ≡ g n = sum_by-cons g n [] ∙ omega arith in
    let more : sum_by g (range_with_len 0 (suc n)) ≡ sum_by g (range_with_len 0 n) + g n =
    cc (range_push 0 n n (omega arith), sum_by-append g (range_with_len 0 n) (n ∷ [])) in
    cc (
      parts_more (λ r. g (r / each)) each n,
      in_succession g each n,
      together each (sum_by g (range_with_len 0 n))
          (g n),
    )
  where
    together : (e a b : ℕ) → e * a + e * b ≡ e * (a + b)
    together e a b = grind arith

-- the numbers below n so many times
in_turn : (g : ℕ → ℕ) (n all : ℕ)
    → sum_by (λ r. g (r % n)) (range_with_len 0 (all * n)) ≡ all * sum_by g (range_with_len 0 n)
in_turn g n zero =
    let none : 0 * n ≡ 0 = omega arith in
    let left : 0 ≡ 0 * sum_by g (range_with_len 0 n) = omega arith in
    ap (λ x. sum_by (λ r. g (r % n)) (range_with_len 0 x)) none ∙ left
in_turn g n (suc all) =
    cc (
      parts_more (λ r. g (r % n)) n all,
      in_turn g n all,
      (sum_by-same (λ x. g ((all * n + x) % n)) g 0 n (λ x low high. cc (mod-mul-add all n x (omega arith)))),
      once_more all (sum_by g (range_with_len 0 n)),
    )
  where
    once_more : (a s : ℕ) → a * s + s ≡ suc a * s
    once_more a s = grind arith

-- in how many of the repeated rows run k is
pub run_total : (n each all k : ℕ) → k < n
    → sum_by (λ r. cond (eqb (run_of each n r) k) 1 0) (range_with_len 0 (n * each * all)) ≡ each * all
run_total n each all k low =
    let one : ℕ → ℕ = λ x. cond (eqb x k) 1 0 in
    let all_of_it : all * 1 ≡ all = omega arith in
    ap (λ x. sum_by (λ r. one (run_of each n r)) (range_with_len 0 x)) (in_order n each all)
    ∙ in_succession (λ y. one (y % n)) each (all * n)
    ∙ ap (λ x. each * x)
    (in_turn one n all
    ∙ ap (λ x. all * x) (sum_by-pick (λ x. 1) k 0 n (omega arith) (omega arith)) ∙ all_of_it)
  where
    in_order : (a b c : ℕ) → a * b * c ≡ c * a * b
    in_order a b c = grind arith

pub block_low : (runs : RunsView) → AreRuns runs.shape runs.rows → (k : ℕ) → k < length runs.rows
    → block_of runs k < runs.shape.q ^ runs.shape.t
block_low runs h k low =
    number_in runs.shape.q runs.shape.s runs.shape.t runs.shape.s _
    (omega (arith, (is_order-field runs.shape.q h.shaped.order).more_than_one)) (omega arith) (h.each k [] low)

module _ (f : ℕ → ℕ) (block : ℕ → ℕ) (n : ℕ) where
  arranged_total : (shuffle : Shuffle) (seed : ℕ) (a : Arrangement) → All (λ x. block x < n) a.order
      → sum_by f (arranged shuffle seed block n a).order ≡ sum_by f a.order
  arranged_total Kept seed a h = refl
  arranged_total (Default values) seed a h = order_total f block n _ a.order h
  arranged_total (Seed own values) seed a h = order_total f block n _ a.order h

-- what is counted in the rows of a plan is what is counted in the rows that they reorder
pub plan_total : (f : ℕ → ℕ) (runs : RunsView) (output : OutputSpec) (seed : ℕ) (inner outer : TableView)
    → AreRuns runs.shape runs.rows
    → sum_by f (arrangement_of runs output seed inner outer).order
    ≡ sum_by f (range_with_len 0 (length runs.rows * length inner.rows * length outer.rows))
plan_total f runs output seed inner outer h =
    let n = length runs.rows in
    let each = length inner.rows in
    let all = length outer.rows in
    arranged_total f (λ r. block_of runs (run_of each n r)) _ output.shuffle seed _
    (λ k d low. block_low runs h _
    (mod-lt _ (some_of n each all k (omega (arith, length-range_with_len 0 (n * each * all)))).0))
