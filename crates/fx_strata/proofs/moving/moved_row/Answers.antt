use Rattle.std.proofs.Common.{ℕ, ◌≡◌, ◌^◌, List, sym, subst, ap, ap₂, ◌∙◌, arith}
use Rattle.std.proofs.lemmas.List.{length-map}
use Rattle.fx_designs.specs.Galois.{IsField, digits, number}
use Rattle.fx_designs.specs.Vectors.{IsVector, dot, vectors_of, weight}
use Rattle.fx_designs.specs.Runs.{levels_at}
use Rattle.fx_laws.proofs.Tables.{is_order-field}
use Rattle.fx_vectors.specs.Shape.{dimensions_of}
use Rattle.fx_vectors.proofs.Limits.{indexes_fit}
use Rattle.fx_strata.proofs.Change.{by-vector}
use Rattle.fx_strata.proofs.Entries.{image-more, image-whole, moved-zero, moved-some}
use Rattle.fx_strata.proofs.moving.moved_row.Goals as goal

-- the image of the whole row, in the words of the shape
in-shape : (q q' m m' n row : ℕ) (change vec image : List ℕ) → q ≡ q' → m ≡ m' → n ≡ row → vec ≡ digits q m n
    → image ≡ levels_at q (vectors_of q m change) vec
    → image ≡ levels_at q' (vectors_of q' m' change) (digits q' m' row)
in-shape q q' m m' n row change vec image eq em en ev e =
    e ∙ ap (levels_at q (vectors_of q m change)) (cc)
    ∙ ap₂ (λ a b. levels_at a (vectors_of a b change) (digits a b row)) eq em

pub of_number-vector-requires : goal.of_number-vector-requires
of_number-vector-requires c = omega (arith, indexes_fit c.args.shape c.requires.shape)

pub loop-i-init : goal.loop-i-init
loop-i-init c =
    let q = c.field-field.ensures in
    record {
      vector = c.zero-image.ensures.vector c.field-field.result
          (let e = (is_order-field c.args.shape.q c.requires.shape.order).more_than_one in omega arith);
      are =
          λ j low. absurd (omega arith);
    }

pub set-requires : goal.set-requires
set-requires c = (let e = c.loop-i.invariant.vector.len in omega arith)

pub loop-i-preserved : goal.loop-i-preserved
loop-i-preserved c =
    let q = c.field-field.result in
    let m = c.from-m.result in
    rw c.set.ensures.codes
    (image-more q m (subst IsField (sym c.field-field.ensures)
    (is_order-field c.args.shape.q c.requires.shape.order)) c.args.change.now c.of_number-vector.result
    (c.requires.count ∙ sym c.from-m.ensures) c.loop-i.image c.loop-i.i c.dot.result (omega arith)
    c.loop-i.invariant (cc (c.dot.ensures.product, c.of_number-form.ensures.digits, c.from-in-loop-i.ensures))
    (subst (IsVector q m) c.set.ensures.codes
    (c.set.ensures.vector q m c.loop-i.invariant.vector c.dot.ensures.code)))

pub returns-then-weight-eq0 : goal.returns-then-weight-eq0
returns-then-weight-eq0 c =
    let f = is_order-field c.args.shape.q c.requires.shape.order in
    let d = dimensions_of c.args.shape in
    let is =
    in-shape c.field-field.result d.q c.from-m.result d.m c.from.result c.args.row c.args.change.now
    c.of_number-vector.result c.loop-i.image c.field-field.ensures c.from-m.ensures c.from.ensures
    c.of_number-vector.ensures.digits
    (image-whole c.field-field.result c.from-m.result (subst IsField (sym c.field-field.ensures) f) c.args.change.now
    c.of_number-vector.result
    (cc (c.requires.count, c.from-m.ensures)) c.loop-i.image c.loop-i.i (omega arith) c.loop-i.invariant) in
    moved-zero d f c.args.change.now c.args.row (cc (c.weight.ensures.count, c.if-weight-eq0.true))
    (by-vector d.q d.m f _
    (length-map c.args.change.now (digits d.q d.m) ∙ c.requires.count) _)

pub normal-requires-clause-vector : goal.normal-requires-clause-vector
normal-requires-clause-vector c =
    rw c.loop-i.invariant.vector.len c.loop-i.invariant.vector

pub overflow_cast-result : goal.overflow_cast-result
overflow_cast-result c =
    let low =
    rw (ap₂ (λ a b. a ^ b) c.field-field.ensures (c.normal.ensures.vector.len ∙ c.loop-i.invariant.vector.len
    ∙ c.from-m.ensures)) at c.number.ensures.below in
    let few = c.requires.shape.runs in
    omega arith

pub returns : goal.returns
returns c =
    let f = is_order-field c.args.shape.q c.requires.shape.order in
    let d = dimensions_of c.args.shape in
    let is =
    in-shape c.field-field.result d.q c.from-m.result d.m c.from.result c.args.row c.args.change.now
    c.of_number-vector.result c.loop-i.image c.field-field.ensures c.from-m.ensures c.from.ensures
    c.of_number-vector.ensures.digits
    (image-whole c.field-field.result c.from-m.result (subst IsField (sym c.field-field.ensures) f) c.args.change.now
    c.of_number-vector.result
    (cc (c.requires.count, c.from-m.ensures)) c.loop-i.image c.loop-i.i (omega arith) c.loop-i.invariant) in
    cc (
      c.number.ensures.number,
      c.normal.ensures.multiple,
      c.field-field.ensures,
      moved-some d f c.args.change.now
          c.args.row (omega (arith, ap weight is)),
    )
