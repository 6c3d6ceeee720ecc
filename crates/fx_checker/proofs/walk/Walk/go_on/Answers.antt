use Rattle.std.proofs.Common.{◌++◌, ◌∷◌, [], List, ℕ, sym, ap, ◌∙◌}
use Rattle.fx_vectors.specs.Marks.{meaning_of}
use Rattle.fx_checker.specs.Books.{children, turns_after}
use Rattle.fx_checker.specs.Claims.{claim_of}
use Rattle.fx_checker.specs.Turns.{extends, pending}
use Rattle.fx_checker.proofs.Pending.{entered}
use Rattle.fx_checker.proofs.walk.Walk.go_on.Goals as goal

pub returns-in-Branch-clause-turns : goal.returns-in-Branch-clause-turns
returns-in-Branch-clause-turns g c =
    let x = claim_of c.args.self.now.book.now.head in
    let may = extends x.problem in
    let rows : List ℕ = c.args.self.now.prefix.rows in
    let own : List ℕ = rows ++ c.args.row ∷ [] in
    ap (λ e. turns_after x own (meaning_of e) (pending may rows c.args.row)) c.in-Branch.is
    ∙ entered may rows c.args.row c.enter.new.self.below (children x.problem own) c.enter.ensures.all
    ∙ ap (λ l. pending may l c.enter.new.self.below) (sym c.enter.ensures.rows)
