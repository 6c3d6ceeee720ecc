use Rattle.std.proofs.Common.{ℕ, ◌≡◌, List, length, Option, Some, sym, subst, ◌∙◌, arith}
use Rattle.fx_table_book.specs.Tables.{IsBook, IsKey, order_of, strata_of}
use Rattle.fx_table_check.specs.Keys.{IsKeyOf, IsLeastOf}
use Rattle.fx_table_lines.specs.Lines.{ArePrinted, IsLeastLine}
use Rattle.fx_table_book.proofs.Bases.{field}
use Rattle.fx_table_rules.specs.Rules.{AreRulesOf}
use Rattle.fx_table_lines.proofs.Proved.{least_line, book_of}
use Rattle.fx_table_lines.proofs.line.least.Goals as goal

pub returns-in-Accepted : goal.returns-in-Accepted
returns-in-Accepted c =
    let own : c.in_ok-from_slice.field-0 ≡ c.in-Some.key = c.in_ok-from_slice.ensures ∙ c.as_slice-3.ensures in
    let rows : c.as_slice.result.now ≡ c.args.rows.items = c.as_slice.ensures.value in
    let x = strata_of c.args.base in
    let order = order_of c.args.order x in
    let key : IsKeyOf x order c.args.rows.items (Some c.in_ok-from_slice.field-0) =
    subst (λ (k : List ℕ). IsKeyOf x order c.args.rows.items (Some k)) (sym own)
    (subst (λ (k : Option (List ℕ)). IsKeyOf x order c.args.rows.items k) c.in-Some.is
    (subst (λ (l : List ℕ). IsKeyOf x order l c.in_ok-key.field-0) rows c.in_ok-key.ensures.key)) in
    let least : IsLeastOf x order c.args.rows.items (Some c.in_ok-from_slice.field-0) =
    subst (λ (k : List ℕ). IsLeastOf x order c.args.rows.items (Some k)) (sym own)
    (subst (λ (k : Option (List ℕ)). IsLeastOf x order c.args.rows.items k) c.in-Some.is
    (subst (λ (l : List ℕ). IsLeastOf x order l c.in_ok-key.field-0) rows c.in_ok-key.ensures.least)) in
    let own-key : IsKey c.args.base.q (length order) (Some c.in_ok-from_slice.field-0) =
    subst (λ (k : List ℕ). IsKey c.args.base.q (length order) (Some k)) (sym own)
    (subst (λ (k : Option (List ℕ)). IsKey c.args.base.q (length order) k) c.in-Some.is c.in_ok-key.ensures.valid) in
    let valid : IsBook (book_of c.args.base c.args.order c.in_ok-from_slice.field-0 c.args.entries) = record {
      base = c.requires.base;
      proper = c.requires.proper;
      key = own-key;
      entries = c.requires.made.0;
      few_entries = omega (arith, c.requires.made.1);
    } in
    let printed : ArePrinted c.args.base c.args.rows.items c.in-Some-rule_matrix.rules = record {
      shape = c.in-Some-rule_matrix.ensures.shape;
      given = c.in-Some-rule_matrix.ensures.given;
      indexes = c.in-Some-rule_matrix.ensures.indexes;
      are = subst (λ (l : List ℕ). AreRulesOf x l c.in-Some-rule_matrix.rules.rows) c.as_slice-2.ensures.value c.in-Some-rule_matrix.ensures.rules;
    } in (
      subst (λ (k : List ℕ). IsLeastLine c.args.base c.args.order c.args.rows.items c.in-Some-rule_matrix.rules k
          (book_of c.args.base c.args.order c.in_ok-from_slice.field-0 c.args.entries)) own
          (least_line c.args.base (field c.args.base c.requires.base) c.args.order c.args.rows.items c.in-Some-rule_matrix.rules
          c.in_ok-from_slice.field-0 c.args.entries c.in_ok-check_table.field-0 printed key least valid
          c.in_ok-check_table.ensures.verdict c.in-Accepted.is),
      omega arith,
    )
