use Rattle.std.proofs.Common.{◌∙◌, length, sym, ap, arith}
use Rattle.std.proofs.Math.Nat.{one-le-pow}
use Rattle.std.proofs.lemmas.List.{length-map}
use Rattle.std.proofs.lemmas.List.Elements.{recursion_from_All}
use Rattle.fx_base.proofs.Lists.{each-both}
use Rattle.fx_designs.specs.Galois.{digits}
use Rattle.fx_designs.specs.Vectors.{vectors_of}
use Rattle.fx_laws.proofs.Tables.{is_order-field}
use Rattle.fx_vectors.proofs.Steps.{are_vectors}
use Rattle.fx_derived.proofs.LevelCounts.{counts_tell}
use Rattle.fx_derived.proofs.WordsOn.{apart_from, words_tell}
use Rattle.fx_derived.proofs.balanced.levels_balanced.Goals as goal

pub returns-clause-levels : goal.returns-clause-levels
returns-clause-levels c =
    let q = c.args.matrix.now.shape.q in
    let f = is_order-field q c.shape-known.ensures.valid.shaped.order in
    let some =
    one-le-pow (length c.args.places.now) q (omega arith) in
    counts_tell q c.args.places.now _ _ c.are_equal.result (omega arith)
    (rw (c.in_ok-runs.ensures.rows, ap (λ z. z.q) c.in_ok-runs.ensures.shape) at c.in_ok-counts.ensures)
    (rw c.as_slice.ensures.value at c.are_equal.ensures)

pub returns-clause-words : goal.returns-clause-words
returns-clause-words c =
    let q = c.args.matrix.now.shape.q in
    let m = c.args.matrix.now.shape.m in
    let s = c.args.matrix.now.shape.s in
    let places = c.args.places.now in
    let f = is_order-field q c.shape-known.ensures.valid.shaped.order in
    let from_1 = recursion_from_All _ places c.requires.places.from_1 in
    let to_s = recursion_from_All _ places c.requires.places.factors in
    let both =
    words_tell q m s f (vectors_of q m c.args.matrix.now.rows) (are_vectors q m c.args.matrix.now.rows (omega arith))
    (omega (arith, length-map c.args.matrix.now.rows (digits q m))) places
    (apart_from places from_1 c.requires.places.different)
    (each-both _ _ places from_1 to_s) in (
      λ e. both.0 (sym (returns-clause-levels c) ∙ e),
      λ none. returns-clause-levels c ∙ both.1 none,
    )
