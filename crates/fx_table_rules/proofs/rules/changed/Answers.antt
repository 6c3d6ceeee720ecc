use Rattle.std.proofs.Common.{ℕ, ◌≡◌, ◌<◌, ◌^◌, sym, subst, ap, ap₂, ◌∙◌}
use Rattle.fx_laws.proofs.Tables.{is_order-field}
use Rattle.fx_vectors.specs.Matrix.{MatrixView}
use Rattle.fx_strata.specs.Changes.{moved}
use Rattle.fx_strata.specs.Canonical.{dimensions_of}
use Rattle.fx_vectors.specs.Shape as shape
use Rattle.fx_table_book.specs.Tables.{strata_of}
use Rattle.fx_table_rules.proofs.Shapes.{moved-below}
use Rattle.fx_table_rules.proofs.rules.changed.Goals as goal

pub push-requires-clause-below : goal.push-requires-clause-below
push-requires-clause-below c =
    let f = is_order-field c.args.base.q c.requires.base.shaped.order in
    let row : ℕ = _ in
    let is : c.moved_row.result ≡ moved (dimensions_of (strata_of c.args.base)) c.args.forms.now row =
    c.moved_row.ensures ∙ ap (λ s. moved (shape.dimensions_of s) c.args.forms.now row) c.shape-shape.ensures.shape in
    let low = moved-below (dimensions_of (strata_of c.args.base)) f c.args.forms.now c.requires.forms row in
    let q : c.loop-row.matrix.shape.q ≡ c.args.base.q = ap (λ (m : MatrixView). m.shape.q) c.loop-row.invariant in
    let m : c.loop-row.matrix.shape.m ≡ c.args.base.m = ap (λ (m : MatrixView). m.shape.m) c.loop-row.invariant in
    subst (λ n. c.moved_row.result < n) (sym (ap₂ (λ (a b : ℕ). a ^ b) q m))
    (subst (λ r. r < c.args.base.q ^ c.args.base.m) (sym is) low)
