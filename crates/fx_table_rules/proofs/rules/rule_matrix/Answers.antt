use Rattle.std.proofs.Common.{ℕ, ◌≡◌, ◌^◌, IsTrue, List, length, sym, subst, ap, ap₂, ◌∙◌, arith}
use Rattle.fx_laws.proofs.Tables.{is_order-field}
use Rattle.fx_vectors.specs.Matrix.{MatrixView}
use Rattle.fx_tree.specs.Introduced.{introduced}
use Rattle.fx_strata.specs.Images.{moved_rows}
use Rattle.fx_table_book.specs.Tables.{strata_of}
use Rattle.fx_table_rules.specs.Rules.{all_rows, AreRulesOf}
use Rattle.fx_table_rules.proofs.Stepping.{same_power, unit_among}
use Rattle.fx_table_rules.proofs.Ruled.{are_rules}
use Rattle.fx_table_rules.proofs.rules.rule_matrix.Goals as goal
use Rattle.fx_table_rules.proofs.rules.rule_matrix.Goals.{After-are_rules}

-- all run indexes are introduced
whole : (c : After-are_rules) → IsTrue c.are_rules.result
    → introduced c.args.base.q 0 c.changed-matrix.result.rows ≡ c.args.base.m
whole c told =
    let f = is_order-field c.args.base.q c.requires.shaped.order in
    let q : c.changed-matrix.result.shape.q ≡ c.args.base.q = ap (λ (m : MatrixView). m.shape.q) c.changed-matrix.ensures in
    let m : c.changed-matrix.result.shape.m ≡ c.args.base.m = ap (λ (m : MatrixView). m.shape.m) c.changed-matrix.ensures in
    same_power c.args.base.q (introduced c.args.base.q 0 c.changed-matrix.result.rows) c.args.base.m f.more_than_one
    (ap (λ n. n ^ introduced n 0 c.changed-matrix.result.rows) (sym q) ∙ c.are_rules.ensures.all told
    ∙ ap₂ (λ (a b : ℕ). a ^ b) q m)

pub returns-then-are_rules-clause-indexes : goal.returns-then-are_rules-clause-indexes
returns-then-are_rules-clause-indexes c =
    whole (goal.at.returns-then-are_rules-clause-indexes c).After-are_rules c.if-are_rules.true

pub returns-then-are_rules-clause-rules : goal.returns-then-are_rules-clause-rules
returns-then-are_rules-clause-rules c =
    let x = strata_of c.args.base in
    let f = is_order-field c.args.base.q c.requires.shaped.order in
    let all : c.as_slice-3.result.now ≡ all_rows x c.args.rows.now = c.as_slice-3.ensures.value ∙ c.all_rows-all.ensures.all in
    let count : length c.as_slice-2.result.now ≡ x.m =
    ap (λ (l : List ℕ). length l) c.as_slice-2.ensures.value ∙ c.forms_for-forms.ensures.count in
    let is : c.changed-matrix.result.rows ≡ moved_rows x c.as_slice-2.result.now (all_rows x c.args.rows.now) =
    ap (λ (m : MatrixView). m.rows) c.changed-matrix.ensures ∙ ap (moved_rows x c.as_slice-2.result.now) all in
    let come = whole (goal.at.returns-then-are_rules-clause-rules c).After-are_rules c.if-are_rules.true in
    subst (AreRulesOf x c.args.rows.now) (sym is)
    (are_rules x f c.as_slice-2.result.now count c.args.rows.now
    (λ i low. unit_among x.q 0 x.m (moved_rows x c.as_slice-2.result.now (all_rows x c.args.rows.now))
    (ap (introduced x.q 0) (sym is) ∙ come) i (omega arith) low))
