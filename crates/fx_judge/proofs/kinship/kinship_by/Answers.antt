use Rattle.std.proofs.Common.{arith}
use Rattle.std.proofs.lemmas.Bool.{both_ways}
use Rattle.fx_laws.proofs.Tables.{is_order-field}
use Rattle.fx_judge.proofs.Kinships.{orthogonal_decides, kinship_aliased, kinship_orthogonal, kinship_partial}
use Rattle.fx_judge.proofs.kinship.kinship_by.Goals as goal

pub returns-then-has_line : goal.returns-then-has_line
returns-then-has_line c = λ rows u v len l r p.
    kinship_aliased c.args.field (is_order-field c.args.field c.q-levels.ensures.known) c.q-levels.ensures.most rows u v
    c.args.pairs.now p
    (omega arith) (c.has_line.ensures.0 c.if-has_line.true)

pub returns-then-are_expected : goal.returns-then-are_expected
returns-then-are_expected c = λ rows u v len l r p.
    let q = c.args.field in
    let f = is_order-field q c.q-levels.ensures.known in
    let told =
    orthogonal_decides q f c.q-levels.ensures.most rows u v c.args.pairs.now p c.args.runs c.args.left.now
    c.args.right.now len l r in
    kinship_orthogonal q f c.q-levels.ensures.most rows u v c.args.pairs.now p (omega arith)
    (λ h. both_ways _ c.if-has_line.false (c.has_line.ensures.1 h))
    (told.1 (rw c.q-levels.ensures.order at (c.are_expected.ensures.0 c.if-are_expected.true)))

pub returns : goal.returns
returns c = λ rows u v len l r p.
    let q = c.args.field in
    let f = is_order-field q c.q-levels.ensures.known in
    let told =
    orthogonal_decides q f c.q-levels.ensures.most rows u v c.args.pairs.now p c.args.runs c.args.left.now
    c.args.right.now len l r in
    kinship_partial q f c.q-levels.ensures.most rows u v c.args.pairs.now p (omega arith)
    (λ h. both_ways _ c.if-has_line.false (c.has_line.ensures.1 h))
    (λ e. both_ways _ c.if-are_expected.false (c.are_expected.ensures.1
    (rw c.q-levels.ensures.order (told.0 e))))
