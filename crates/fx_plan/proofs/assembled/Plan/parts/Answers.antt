use Rattle.std.proofs.Common.{◌≡◌, All, length, sym, subst}
use Rattle.fx_derived.specs.Tables.{TableView}
use Rattle.fx_plan.proofs.Parts.{long}
use Rattle.fx_plan.proofs.assembled.Plan.parts.Goals as goal

pub returns-clause-whole : goal.returns-clause-whole
returns-clause-whole c =
    let many : c.self.inside.len ≡ length c.args.self.now.rows =
    cc (long c.self.inside.len c.self.inside.parts, c.self.view_is) in
    cc (c.self.view_is, c.as_slice.ensures)

pub returns-clause-long : goal.returns-clause-long
returns-clause-long c =
    let many : c.self.inside.len ≡ length c.args.self.now.rows =
    cc (long c.self.inside.len c.self.inside.parts, c.self.view_is) in
    let own : All (λ (t : TableView). length t.rows ≡ length c.args.self.now.rows) c.self.inside.parts =
    λ k d low. cc (c.self.invariant k d low) in
    subst (All (λ (t : TableView). length t.rows ≡ length c.args.self.now.rows)) (sym c.as_slice.ensures) own
