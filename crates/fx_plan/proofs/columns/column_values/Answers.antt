use Rattle.std.proofs.Common.{◌≡◌, ◌^◌, ◌++◌, ◌∙◌, ℕ, List, map, take}
use Rattle.std.proofs.Common.{length, arith}
use Rattle.fx_plan.specs.Plans.{values_at}
use Rattle.fx_outputs.specs.declared.derived.Derived.{Derived}
use Rattle.fx_plan.specs.Columns.{values_or_codes}
use Rattle.fx_plan.proofs.Lists.{mapped_more, behind_more}
use Rattle.fx_plan.proofs.columns.column_values.Goals as goal

pub overflow_cast-len : goal.overflow_cast-len
overflow_cast-len c =
    let at =
    rw (← c.factor-item.is) at (c.requires.few c.loop-factor.factor-index c.factor-item.result c.loop-factor-test.true)
    in
    omega arith

pub loop-place-preserved : goal.loop-place-preserved
loop-place-preserved c =
    c.in_ok-push_list.ensures ∙ rw (c.loop-place.invariant, c.in_ok-values_at.ensures)
    (mapped_more (values_at c.args.q c.args.recodes.now) c.args.free.now c.loop-place.place-index 0
    (omega arith))

pub loop-factor-preserved : goal.loop-factor-preserved
loop-factor-preserved c =
    let f : Derived → List (List ℕ) = λ x. values_or_codes (c.args.q ^ length x.places) x.values in
    let front = map (values_at c.args.q c.args.recodes.now) c.args.free.now in
    let done = front ++ map f (take c.loop-factor.factor-index c.args.derived.now) in
    let levels : c.pow-levels.result ≡ c.args.q ^ length c.factor-item.result.places =
    cc (c.pow-levels.ensures, c.from.ensures, c.len.ensures) in
    let list = rw levels at c.in_ok-values_or_codes.ensures in
    cc (
      c.in_ok-push_list-2.ensures,
      c.loop-factor.invariant,
      c.factor-item.is,
      behind_more front f c.args.derived.now
          c.loop-factor.factor-index c.factor-item.result (omega arith),
    )
