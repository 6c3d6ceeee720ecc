use Rattle.std.proofs.Common.{◌≡◌, ◌<◌, ◌≤◌, ◌+◌, ◌-◌, ◌*◌, ◌^◌, ◌++◌, [], ◌∷◌, ◌∙◌, ℕ, List, Option, None, length}
use Rattle.std.proofs.Common.{take, slice_index, slice_index_or, length-take, sym, subst, ap, arith}
use Rattle.fx_designs.specs.Galois.{IsField}
use Rattle.fx_designs.specs.Problems.{Dimensions, Requirement}
use Rattle.fx_laws.proofs.Tables.{is_order-field}
use Rattle.fx_demands.proofs.Digits.{sum_below}
use Rattle.fx_points.specs.Sums.{sum_of}
use Rattle.fx_barred.specs.Reach.{with_row}
use Rattle.fx_barred.specs.declared.best_words.Best.{Best}
use Rattle.fx_barred.specs.BestWords.{BringsToZero, IsBestOf, IsBest, preferred, with_code}
use Rattle.fx_barred.proofs.BestWords.{best-first, best-next, best-last, preferred-within, within-more}
use Rattle.fx_barred.proofs.Tables.{all-but-last}
use Rattle.fx_barred.proofs.best_words.best_with_last.Invariants.{HasCodeBelow}
use Rattle.fx_barred.proofs.best_words.best_with_last.Goals as goal

size-is : (d : Dimensions) (q m : ℕ) → d.q ≡ q → d.m ≡ m → d.q ^ d.m ≡ q ^ m
size-is d q m eq em = cc

-- the rows before the last, and the last
module _ (rows : List ℕ) (some : 0 < length rows) where
  abbrev front : List ℕ
  front = take (length rows - 1) rows

  abbrev last : ℕ
  last = slice_index rows (length rows - 1)

  whole : front ++ last ∷ [] ≡ rows
  whole = all-but-last rows some

  count : length front ≡ length rows - 1
  count = length-take (length rows - 1) rows ∙ omega arith

  module _ (d : Dimensions) (f : IsField d.q) (wanted : Requirement) (blocks : d.s < length rows) (x : ℕ)
      (low : x < d.q ^ d.m) where
    in-front : d.s ≤ length front
    in-front = omega (arith, count)

    -- as the property is written
    as-written : (b : ℕ) (o : Option Best)
        → IsBestOf (λ v. BringsToZero d wanted (front ++ last ∷ []) x v × (slice_index v (length front) < b)) d.q o
        → IsBestOf (HasCodeBelow d wanted rows x b) d.q o
    as-written b o h =
        rw count at (rw whole at h)

    as-used : (b : ℕ) (o : Option Best) → IsBestOf (HasCodeBelow d wanted rows x b) d.q o
        → IsBestOf (λ v. BringsToZero d wanted (front ++ last ∷ []) x v × (slice_index v (length front) < b)) d.q o
    as-used b o h =
        subst (λ l. IsBestOf (λ v. BringsToZero d wanted l x v × (slice_index v (length front) < b)) d.q o)
        (sym whole)
        (subst (λ (k : ℕ). IsBestOf (λ v. BringsToZero d wanted rows x v × (slice_index v k < b)) d.q o) (sym count) h)

    first : (o : Option Best) → IsBest d wanted front x o → IsBestOf (HasCodeBelow d wanted rows x 1) d.q o
    first o h = as-written 1 o (best-first d f wanted front last in-front x o low h)

    next : (c : ℕ) (found o : Option Best) → 0 < c → c < d.q → IsBestOf (HasCodeBelow d wanted rows x c) d.q found
        → IsBest d wanted front (sum_of d.q c d.m x last) o
        → IsBestOf (HasCodeBelow d wanted rows x (c + 1)) d.q
        (preferred found (with_code o (c * d.q ^ (length rows - 1))))
    next c found o positive code so-far h =
        rw count at (as-written (c + 1) (preferred found (with_code o (c * d.q ^ length front)))
        (best-next d f wanted front last in-front x c found o positive code (as-used c found so-far) h))

    end : (o : Option Best) → IsBestOf (HasCodeBelow d wanted rows x d.q) d.q o → IsBest d wanted rows x o
    end o h = rw whole at (best-last d f wanted front last in-front x o (as-used d.q o h))

pub loop-code-init : goal.loop-code-init
loop-code-init c =
    let q = c.args.rows.now.q in
    let rows = c.args.rows.now.rows in
    let up : length rows - 1 + 1 ≡ length rows = omega arith in
    let o = slice_index_or c.args.tables.now (c.args.before + c.from.result) None in
    let at : o ≡ slice_index_or c.args.tables.now (c.args.before + c.args.x) None =
    cc c.from.ensures in
    let few =
    rw (← at) at (c.requires.within c.args.x c.requires.point) in
    record {
      within = rw up at (within-more q (length rows - 1) o (omega arith)
          few);
      best = λ d wanted eq em blocks before.
          (let f = is_order-field d.q
          (rw (← eq) at c.q-code-end.ensures.known) in
          let low : c.args.x < d.q ^ d.m = omega (arith, size-is d q c.args.rows.now.m eq em) in
          first rows c.requires.some d f wanted blocks c.args.x low o
          (rw (← at) at (before c.args.x low)));
    }

pub loop-code-preserved : goal.loop-code-preserved
loop-code-preserved c =
    let q = c.args.rows.now.q in
    let m = c.args.rows.now.m in
    let rows = c.args.rows.now.rows in
    let code = c.loop-code.code in
    let last : c.len-last.result - 1 ≡ length rows - 1 = omega arith in
    let up : c.len-last.result - 1 + 1 ≡ length rows = omega arith in
    let low_code : code < q = omega arith in
    let o = slice_index_or c.args.tables.now (c.args.before + c.from-in-loop-code.result) None in
    let longer : c.with_code.result ≡ with_code o (code * q ^ (length rows - 1)) =
    cc c.with_code.ensures.longer in
    record {
      within = rw c.preferred-best.ensures
          (preferred-within q (length rows) c.loop-code.best c.with_code.result c.loop-code.invariant.within
          (rw up at c.with_code.ensures.within));
      best = λ d wanted eq em blocks before.
          (let f = is_order-field d.q
          (rw (← eq) at c.q-code-end.ensures.known) in
          let low : c.args.x < d.q ^ d.m = omega (arith, size-is d q m eq em) in
          let r = slice_index rows (length rows - 1) in
          let y = sum_of d.q code d.m c.args.x r in
          let is =
          c.from-in-loop-code.ensures ∙ c.with_row-y.ensures.total ∙ ap (λ k. with_row q m rows k c.args.x code)
          last ∙ ap (λ k. sum_of k code m c.args.x r) (sym eq) ∙ ap (λ k. sum_of d.q code k c.args.x r)
          (sym em) in
          let at : o ≡ slice_index_or c.args.tables.now (c.args.before + y) None =
          cc in
          let there =
          rw (← at) at (before y (sum_below d.q f code d.m c.args.x r)) in
          let is-next : c.preferred-best.result
          ≡ preferred c.loop-code.best (with_code o (code * d.q ^ (length rows - 1))) =
          cc c.preferred-best.ensures in
          rw is-next (next rows c.requires.some d f wanted blocks c.args.x low code c.loop-code.best o
          (omega arith) (omega arith)
          (c.loop-code.invariant.best d wanted eq em blocks before) there));
    }

pub returns-clause-best : goal.returns-clause-best
returns-clause-best c d wanted eq em blocks before =
    let q = c.args.rows.now.q in
    let rows = c.args.rows.now.rows in
    let f =
    is_order-field d.q (rw (← eq) at c.q-code-end.ensures.known) in
    let low : c.args.x < d.q ^ d.m = omega (arith, size-is d q c.args.rows.now.m eq em) in
    let ends : c.loop-code.code ≡ d.q =
    omega arith in
    end rows c.requires.some d f wanted blocks c.args.x low c.loop-code.best
    (rw ends at (c.loop-code.invariant.best d wanted eq em blocks before))
