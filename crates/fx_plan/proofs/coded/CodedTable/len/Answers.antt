use Rattle.std.proofs.Common.{rules, ◌≡◌, sym, ◌∙◌, ap, length}
use Rattle.std.specs.Prelude.{vec_len}
use Rattle.std.proofs.lemmas.List.{length-map}
use Rattle.fx_plan.proofs.coded.CodedTable.len.Goals as goal

pub returns : goal.returns
returns c =
    let many : vec_len c.self.inside.rows ≡ length c.self.inside.rows.items = search rules in
    c.len.ensures ∙ many ∙ sym (length-map c.self.inside.rows.items _)
    ∙ ap (λ t. length t.rows) c.self.view_is
