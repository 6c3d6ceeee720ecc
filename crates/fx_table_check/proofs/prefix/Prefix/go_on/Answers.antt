use Rattle.std.proofs.Common.{ℕ, ◌^◌, ◌++◌, ◌∷◌, [], List}
use Rattle.std.proofs.Common.{sym, ap, ◌∙◌}
use Rattle.fx_table_book.specs.Tables.{entry_of}
use Rattle.fx_table_check.specs.Goals.{claim_in}
use Rattle.fx_strata.specs.Books.{turns_after}
use Rattle.fx_table_check.specs.Checking.{pending}
use Rattle.fx_table_check.proofs.Turns.{entered}
use Rattle.fx_table_check.proofs.prefix.Prefix.go_on.Goals as goal

pub returns-in-Branch-clause-turns : goal.returns-in-Branch-clause-turns
returns-in-Branch-clause-turns c =
    let x = claim_in c.args.self.now.base c.args.goal.now in
    let rows : List ℕ = c.args.self.now.rows in
    ap (λ e. turns_after x (rows ++ c.args.row ∷ []) (entry_of e) (pending x.strata rows c.args.row)) c.in-Branch.is
    ∙ entered x.strata rows c.args.row c.power.result
    (c.power.ensures.power ∙ ap (λ b. b.q ^ b.m)
    (c.base-base.ensures.base ∙ ap (λ v. v.base) c.push.ensures))
    ∙ ap (λ v. pending x.strata v.rows c.power.result) (sym c.push.ensures)
