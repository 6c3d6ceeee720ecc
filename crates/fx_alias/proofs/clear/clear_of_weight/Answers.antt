use Rattle.std.proofs.Common.{◌≡◌, ◌<◌, ◌^◌, ◌==◌, ◌&&◌, ◌∙◌, ℕ, Bool, eqb, List, [], length}
use Rattle.std.proofs.Common.{filter, get_or, sym, ap, ap₂, arith}
use Rattle.std.specs.List.{range_with_len}
use Rattle.std.proofs.lemmas.Bool.{eq-eqb, ne_eqb}
use Rattle.std.proofs.lemmas.List.{length-map}
use Rattle.std.proofs.lemmas.List.Sums.{count_by_more_no, count_by_more_yes}
use Rattle.fx_designs.specs.Vectors.{weight}
use Rattle.fx_laws.proofs.Tables.{is_order-field}
use Rattle.fx_runs.specs.Groups.{by_group}
use Rattle.fx_runs.specs.Runs.{design_of}
use Rattle.fx_runs.proofs.Grouping.{group_at, length_groups}
use Rattle.fx_alias.specs.ClassNumbers.{number_by}
use Rattle.fx_alias.specs.Clear.{is_clear}
use Rattle.fx_alias.proofs.Alone.{clear_by_group}
use Rattle.fx_alias.proofs.clear.clear_of_weight.Goals as goal
use Rattle.fx_alias.proofs.clear.clear_of_weight.Goals.{then-weight-k+then-is_clear, else-weight-k}
use Rattle.fx_alias.proofs.clear.clear_of_weight.Goals.{else-weight-k-via-then-weight-k+else-is_clear}
use Rattle.fx_alias.proofs.clear.clear_of_weight.Goals.{else-weight-k-via-else-weight-k}

pub get-alike-requires : goal.get-alike-requires
get-alike-requires c =
    let low = c.requires.below c.loop-i.i 0 (omega arith) in
    omega (
      arith,
      ap length c.requires.groups,
      length_groups (λ i. get_or c.args.numbers.now i 0)
          (c.args.matrix.now.shape.q ^ c.args.matrix.now.shape.m) (range_with_len 0 (length c.args.numbers.now)),
    )

pub loop-i-preserved : goal.loop-i-preserved
loop-i-preserved c =
    let matrix = c.args.matrix.now in
    let f = is_order-field matrix.shape.q c.shape-shape.ensures.valid.shaped.order in
    let components = c.args.components.now in
    let numbers = c.args.numbers.now in
    let x = c.get-u.result.now in
    let size : ℕ = matrix.shape.q ^ matrix.shape.m in
    let count : length numbers ≡ length components =
    cc (c.requires.numbers, length-map components (number_by matrix)) in
    let low : c.loop-i.i < length components = omega arith in
    let below = c.requires.below c.loop-i.i 0 c.loop-i-test.true in
    let group : c.get-alike.result.now
    ≡ filter (λ j. eqb (get_or numbers j 0) (get_or numbers c.loop-i.i 0)) (range_with_len 0 (length numbers)) =
    c.get-alike.ensures
    ∙ ap (λ l. get_or l c.from.result []) c.requires.groups
    ∙ ap (λ z. get_or (by_group (λ j. get_or numbers j 0) size (range_with_len 0 (length numbers))) z []) c.from.ensures
    ∙ group_at (λ j. get_or numbers j 0) size (range_with_len 0 (length numbers)) (get_or numbers c.loop-i.i 0) below in
    let told =
    clear_by_group matrix f components numbers c.requires.numbers c.loop-i.i low x (sym c.get-u.ensures)
    c.get-alike.result.now
    group in
    let p : List ℕ → Bool = λ u. (weight u == c.args.k) && is_clear (design_of matrix) components u in
    let here : p (get_or components c.loop-i.i x) ≡ p x = cc c.get-u.ensures in
    elim c.if-weight-k.branch [
      | then-weight-k+then-is_clear w ↦
          cc (
            w.count-is,
            c.loop-i.invariant,
            count_by_more_yes p components c.loop-i.i x low
                (here ∙ ap₂ (λ a b. a && b)
                (eq-eqb (weight x) c.args.k (sym c.weight.ensures.count ∙ w.if-weight-k.true))
                (told ∙ sym w.is_clear.ensures ∙ w.if-is_clear.true)),
          )
      | else-weight-k w ↦
          cc (
            c.loop-i.invariant,
            count_by_more_no p components c.loop-i.i x low (here ∙ elim w.else-weight-k.branch [
              | else-weight-k-via-then-weight-k+else-is_clear v ↦
                  ap₂ (λ a b. a && b)
                  (eq-eqb _ c.args.k (sym c.weight.ensures.count ∙ v.if-weight-k.true))
                  (told ∙ sym v.is_clear.ensures ∙ v.if-is_clear.false)
              | else-weight-k-via-else-weight-k v ↦
                  ap (λ a. a && is_clear (design_of matrix) components x)
                  (ne_eqb (weight x) c.args.k (λ e. v.if-weight-k.false (c.weight.ensures.count ∙ e)))
            ]),
          )
    ]
