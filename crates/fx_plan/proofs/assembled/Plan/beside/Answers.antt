use Rattle.std.proofs.Common.{◌≡◌, ◌∷◌, [], All, length, sym, subst, ap, ap₂, ◌∙◌}
use Rattle.std.proofs.lemmas.List.Elements.{All-append}
use Rattle.fx_derived.specs.Tables.{TableView}
use Rattle.fx_plan.specs.Parts.{side_by_side}
use Rattle.fx_plan.proofs.Parts.{joined, long}
use Rattle.fx_plan.proofs.assembled.Plan.beside.Goals as goal

pub invariant_of-result : goal.invariant_of-result
invariant_of-result c =
    let a = c.self.inside in
    let b = c.other.inside in
    let own : a.len ≡ length c.args.self.rows =
    cc (long a.len a.parts, c.self.view_is) in
    let others : b.len ≡ length c.args.other.rows =
    cc (long b.len b.parts, c.other.view_is) in
    subst (All (λ (t : TableView). length t.rows ≡ a.len)) (sym c.in_ok-append.ensures.ok)
    (All-append (λ (t : TableView). length t.rows ≡ a.len) a.parts b.parts c.self.invariant
    (λ k d low. c.other.invariant k d low ∙ (others ∙ c.requires ∙ sym own)))

pub returns : goal.returns
returns c =
    let a = c.self.inside in
    let b = c.other.inside in
    let own =
    sym (long a.len a.parts) ∙ ap (λ t. length t.rows) c.self.view_is in
    let others =
    sym (long b.len b.parts) ∙ ap (λ t. length t.rows) c.other.view_is in
    let same = own ∙ sym (others ∙ c.requires) in
    let right =
    ap (λ n. side_by_side n b.parts) same ∙ c.other.view_is in
    ap (side_by_side a.len) c.in_ok-append.ensures.ok ∙ joined a.len a.parts b.parts
    ∙ ap (side_by_side a.len)
    (ap₂ (λ x y. x ∷ y ∷ []) c.self.view_is right)
    ∙ ap (λ n. side_by_side n (c.args.self ∷ c.args.other ∷ [])) own
