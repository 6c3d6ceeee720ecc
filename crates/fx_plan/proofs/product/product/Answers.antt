use Rattle.std.proofs.Common.{◌≡◌, ◌<◌, ◌∷◌, [], ◌%◌, ◌/◌, ◌∙◌, ℕ, List, All, length, map, sym, subst}
use Rattle.std.proofs.lemmas.List.{length-map}
use Rattle.fx_plan.specs.Products.{run_of}
use Rattle.fx_plan.proofs.Parts.{count, inside_low, long, outside_low, own_low, product_is}
use Rattle.fx_plan.proofs.product.product.Goals as goal

pub picked-requires : goal.picked-requires
picked-requires c =
    let is : c.as_slice-2.result.now ≡ map (λ r. r % length c.args.inner.rows) c.args.order.items =
    c.as_slice-2.ensures.value ∙ rw (c.as_slice.ensures.value, c.len.ensures) at c.in_ok-sources.ensures.inner in
    subst (All (λ i. i < length c.args.inner.rows)) (sym is)
    (inside_low c.args.runs c.args.inner c.args.outer c.args.order.items c.requires)

pub picked-requires-2 : goal.picked-requires-2
picked-requires-2 c =
    let is : c.as_slice-3.result.now
    ≡ map (λ r. r / length c.args.inner.rows / length c.args.runs.rows) c.args.order.items =
    c.as_slice-3.ensures.value
    ∙ rw (c.as_slice.ensures.value, c.len.ensures, c.len-2.ensures) at c.in_ok-sources.ensures.outer in
    subst (All (λ i. i < length c.args.outer.rows)) (sym is)
    (outside_low c.args.runs c.args.inner c.args.outer c.args.order.items c.requires)

pub of-requires : goal.of-requires
of-requires c =
    let is =
    rw (c.as_slice.ensures.value, c.len.ensures, c.len-2.ensures) at c.in_ok-sources.ensures.runs in
    subst (All (λ i. i < length c.args.runs.rows)) (sym is)
    (own_low c.args.runs c.args.inner c.args.outer c.args.order.items c.requires)

pub beside-requires : goal.beside-requires
beside-requires c =
    let order : List ℕ = c.args.order.items in
    let runs : c.in_ok-sources.sources.runs.items
    ≡ map (run_of (length c.args.inner.rows) (length c.args.runs.rows)) order =
    rw (c.as_slice.ensures.value, c.len.ensures, c.len-2.ensures) at c.in_ok-sources.ensures.runs in
    let inner : c.as_slice-2.result.now ≡ map (λ r. r % length c.args.inner.rows) order =
    c.as_slice-2.ensures.value ∙ rw (c.as_slice.ensures.value, c.len.ensures) at c.in_ok-sources.ensures.inner in
    cc (
      count c.as_slice-2.result.now c.args.inner c.in_ok-inner.inner (sym c.in_ok-inner.ensures),
      inner,
      length-map
          order (λ r. r % length c.args.inner.rows),
      count c.in_ok-sources.sources.runs.items c.args.runs
          c.in_ok-of.field-0 (sym c.in_ok-of.ensures),
      runs,
      length-map order
          (run_of (length c.args.inner.rows) (length c.args.runs.rows)),
    )

pub beside-requires-2 : goal.beside-requires-2
beside-requires-2 c =
    let order : List ℕ = c.args.order.items in
    let runs : c.in_ok-sources.sources.runs.items
    ≡ map (run_of (length c.args.inner.rows) (length c.args.runs.rows)) order =
    rw (c.as_slice.ensures.value, c.len.ensures, c.len-2.ensures) at c.in_ok-sources.ensures.runs in
    let outer : c.as_slice-3.result.now
    ≡ map (λ r. r / length c.args.inner.rows / length c.args.runs.rows) order =
    c.as_slice-3.ensures.value
    ∙ rw (c.as_slice.ensures.value, c.len.ensures, c.len-2.ensures) at c.in_ok-sources.ensures.outer in
    let own : length c.in_ok-of.field-0.rows ≡ length order =
    cc (
      count c.in_ok-sources.sources.runs.items c.args.runs c.in_ok-of.field-0 (sym c.in_ok-of.ensures),
      length-map
          order (run_of (length c.args.inner.rows) (length c.args.runs.rows)),
    ) in
    cc (
      count c.as_slice-3.result.now c.args.outer c.in_ok-outer.outer (sym c.in_ok-outer.ensures),
      outer,
      length-map
          order (λ r. r / length c.args.inner.rows / length c.args.runs.rows),
      c.in_ok-beside.ensures,
      long
          (length c.in_ok-of.field-0.rows) (c.in_ok-of.field-0 ∷ c.in_ok-inner.inner ∷ []),
      own,
    )

pub returns : goal.returns
returns c =
    let order : List ℕ = c.args.order.items in
    let runs : c.in_ok-sources.sources.runs.items
    ≡ map (run_of (length c.args.inner.rows) (length c.args.runs.rows)) order =
    rw (c.as_slice.ensures.value, c.len.ensures, c.len-2.ensures) at c.in_ok-sources.ensures.runs in
    let inner : c.as_slice-2.result.now ≡ map (λ r. r % length c.args.inner.rows) order =
    c.as_slice-2.ensures.value ∙ rw (c.as_slice.ensures.value, c.len.ensures) at c.in_ok-sources.ensures.inner in
    let outer : c.as_slice-3.result.now
    ≡ map (λ r. r / length c.args.inner.rows / length c.args.runs.rows) order =
    c.as_slice-3.ensures.value
    ∙ rw (c.as_slice.ensures.value, c.len.ensures, c.len-2.ensures) at c.in_ok-sources.ensures.outer in
    rw (← (product_is c.args.runs c.args.inner c.args.outer order c.requires c.in_ok-of.field-0 c.in_ok-inner.inner
    c.in_ok-outer.outer c.in_ok-beside.field-0
    (cc (c.in_ok-of.ensures, runs))
    (cc (c.in_ok-inner.ensures, inner))
    (cc (c.in_ok-outer.ensures, outer))
    c.in_ok-beside.ensures)) c.beside-2.ensures
