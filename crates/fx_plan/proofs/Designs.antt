-- Plans of a design: how many rows they have, and what the shuffled values are.
use Rattle.std.proofs.Common.{ℕ, ◌≡◌, ◌<◌, ◌+◌, ◌-◌, ◌*◌, ◌^◌, zero, suc, Bool, true, false, List, [], ◌∷◌, length}
use Rattle.std.proofs.Common.{swap, refl, sym, ◌∙◌, ap, arith, IsPermutation}
use Rattle.std.specs.List.{AllZip, range_with_len}
use Rattle.std.proofs.lemmas.List.{length-map}
use Rattle.std.proofs.lemmas.List.FromFn.{length-range_with_len}
use Rattle.std.proofs.lemmas.List.Elements.{All-map}
use Rattle.std.proofs.lemmas.List.Sorted.{IsPermutation-refl, IsPermutation-swap, IsPermutation-trans}
use Rattle.rand_pcg.specs.Lcg.{Lcg}
use Rattle.fx_designs.specs.Vectors.{IsVector, vectors_of}
use Rattle.fx_designs.specs.Runs.{points, runs_of, levels_at}
use Rattle.fx_laws.proofs.Codes.{length-points}
use Rattle.fx_laws.proofs.Shift.{all-points}
use Rattle.fx_laws.proofs.Sums.{sum_by-constant}
use Rattle.fx_laws.proofs.Tables.{is_order-field}
use Rattle.fx_vectors.specs.Matrix.{IsMatrix, MatrixView}
use Rattle.fx_outputs.specs.declared.output.OutputSpec.{OutputSpec}
use Rattle.fx_outputs.specs.declared.shuffle.Shuffle.{Shuffle}
use Rattle.fx_outputs.specs.declared.shuffle.Shuffle.TheVariants.{Kept, Default, Seed}
use Rattle.fx_runs.specs.Runs.{AreRuns, RunsView, design_of}
use Rattle.fx_runs.specs.RunBlocks.{block_of}
use Rattle.fx_runs.proofs.Points.{rows-vector}
use Rattle.fx_plan.specs.Draws.{drawn, each_shuffled, exchanged, generator, shuffled}
use Rattle.fx_derived.specs.Tables.{TableView}
use Rattle.fx_plan.specs.Plans.{Arrangement, arranged, shuffled_in_blocks, shuffled_values}
use Rattle.fx_plan.specs.Columns.{column_values}
use Rattle.fx_plan.specs.Products.{arrangement_of, plan_of, run_of}
use Rattle.std.proofs.lemmas.List.Edits.{length-swap}
use Rattle.fx_plan.proofs.Repeating.{plan_total}
use Rattle.fx_plan.proofs.Words.{drawn_low}

-- the runs of a whole matrix are runs of its shape
pub design-runs : (matrix : MatrixView) → IsMatrix matrix.shape matrix.rows
    → length matrix.rows ≡ matrix.shape.s + matrix.shape.t → AreRuns matrix.shape (design_of matrix).rows
unfolding runs_of
design-runs matrix known whole =
    let q = matrix.shape.q in
    let f = is_order-field q known.shaped.order in
    let rules = vectors_of q matrix.shape.m matrix.rows in
    record {
      shaped = known.shaped;
      each =
          All-map (λ x. IsVector q (matrix.shape.s + matrix.shape.t) x) _
          _
          (all-points q matrix.shape.m (omega arith)
          (λ p. IsVector q (matrix.shape.s + matrix.shape.t) (levels_at q rules p))
          (λ p h. rw whole at (rows-vector q f matrix.shape.m matrix.rows p)));
    }

module _ {X : Type 0} where
  exchanged-permutation : (k : ℕ) (g : Lcg) (xs : List X) → k < length xs → IsPermutation xs (exchanged g k xs).0
  exchanged-permutation zero g xs h = IsPermutation-refl xs
  exchanged-permutation (suc k) g xs h =
      let j = (drawn g (k + 2)).0 in
      let low = drawn_low g (k + 2) (omega arith) in
      let next = swap xs (k + 1) j in
      IsPermutation-trans xs next _
      (IsPermutation-swap xs next (k + 1) j (omega arith) (omega arith) refl)
      (exchanged-permutation k (drawn g (k + 2)).1 next (omega (arith, length-swap xs (k + 1) j)))

  shuffled-permutation : (g : Lcg) (xs : List X) → IsPermutation xs (shuffled g xs).0
  shuffled-permutation g [] = IsPermutation-refl []
  shuffled-permutation g (x ∷ xs) = exchanged-permutation (length (x ∷ xs) - 1) g (x ∷ xs) (omega arith)

  each-permutation : (g : Lcg) (lists : List (List X)) → AllZip IsPermutation lists (each_shuffled g lists).0
  each-permutation g [] = tt
  each-permutation g (xs ∷ lists) = (shuffled-permutation g xs, each-permutation (shuffled g xs).1 lists)

  same-permutation : (lists : List (List X)) → AllZip IsPermutation lists lists
  same-permutation [] = tt
  same-permutation (xs ∷ lists) = (IsPermutation-refl xs, same-permutation lists)

values-shuffled : (asked : Bool) (g : Lcg) (values : List (List (List ℕ)))
    → AllZip IsPermutation values (shuffled_values asked g values)
values-shuffled true g values = each-permutation g values
values-shuffled false g values = same-permutation values

arranged-values : (shuffle : Shuffle) (seed : ℕ) (block : ℕ → ℕ) (n : ℕ) (a : Arrangement)
    → AllZip IsPermutation a.values (arranged shuffle seed block n a).values
arranged-values Kept seed block n a = same-permutation a.values
arranged-values (Default values) seed block n a =
    values-shuffled values (shuffled_in_blocks (generator seed) block n a.order).1 a.values
arranged-values (Seed own values) seed block n a =
    values-shuffled values (shuffled_in_blocks (generator own) block n a.order).1 a.values

-- the values of each column are in the plan as a reordering of them
pub values-reordered : (runs : RunsView) (output : OutputSpec) (seed : ℕ) (inner outer : TableView)
    → AllZip IsPermutation (column_values runs.shape.q runs.shape.s output.recodes output.derived)
    (arrangement_of runs output seed inner outer).values
values-reordered runs output seed inner outer =
    arranged-values output.shuffle seed (λ r. block_of runs (run_of (length inner.rows) (length runs.rows) r))
    _ _

pub run-count : (matrix : MatrixView) → length (design_of matrix).rows ≡ matrix.shape.q ^ matrix.shape.m
unfolding runs_of
run-count matrix = length-map (points matrix.shape.q matrix.shape.m) _ ∙ length-points matrix.shape.q matrix.shape.m

-- a plan has a row for each run with each row of either table
pub row-count : (names : List (List ℕ)) (matrix : MatrixView) (output : OutputSpec) (seed : ℕ) (inner outer : TableView)
    → IsMatrix matrix.shape matrix.rows → length matrix.rows ≡ matrix.shape.s + matrix.shape.t
    → length (plan_of names (design_of matrix) output seed inner outer).rows
    ≡ matrix.shape.q ^ matrix.shape.m * (length inner.rows * length outer.rows)
row-count names matrix output seed inner outer known whole =
    let runs = design_of matrix in
    let order = (arrangement_of runs output seed inner outer).order in
    let all = length runs.rows * length inner.rows * length outer.rows in
    length-map order _
    ∙ sym (sum_by-constant 1 order ∙ omega arith)
    ∙ plan_total (λ x. 1) runs output seed inner outer (design-runs matrix known whole)
    ∙ sum_by-constant 1 (range_with_len 0 all) ∙ ap (λ x. x * 1) (length-range_with_len 0 all)
    ∙ in_order (length runs.rows) (length inner.rows) (length outer.rows)
    ∙ ap (λ n. n * (length inner.rows * length outer.rows)) (run-count matrix)
  where
    in_order : (a b c : ℕ) → a * b * c * 1 ≡ a * (b * c)
    in_order a b c = grind arith
