use Rattle.std.proofs.Common.{ap, sym, ◌∙◌}
use Rattle.fx_language.specs.declared.symbol.Symbol.TheVariants.{Factex, Equals, Whole}
use Rattle.fx_language.specs.Symbols.{is}
use Rattle.fx_language.specs.Shapes.{derivative}
use Rattle.fx_language.specs.declared.state.State.TheVariants.{Proc}
use Rattle.fx_language.specs.declared.proc.ProcPlace.TheVariants as proc
use Rattle.fx_language.specs.Continuations.{proc_left, shape_left}
use Rattle.fx_language.proofs.Keys.{one_or_fault, one_or_faults}
use Rattle.fx_language.proofs.proc.ProcPlace.next.Goals as goal

pub returns-in-Procedure : goal.returns-in-Procedure
returns-in-Procedure c =
    ap (λ place. derivative c.args.symbol (proc_left place)) c.in-Procedure.is
    ∙ one_or_faults (is Factex c.args.symbol) (Proc proc.Options)
    ∙ ap shape_left (sym c.only.ensures)

pub returns-in-Equals : goal.returns-in-Equals
returns-in-Equals c =
    ap (λ place. derivative c.args.symbol (proc_left place)) c.in-Equals.is
    ∙ one_or_fault (is Equals c.args.symbol) (Proc proc.Nodes)
    ∙ ap shape_left (sym c.only-in-Equals.ensures)

pub returns-in-Nodes : goal.returns-in-Nodes
returns-in-Nodes c =
    ap (λ place. derivative c.args.symbol (proc_left place)) c.in-Nodes.is
    ∙ one_or_fault (is Whole c.args.symbol) (Proc proc.Options)
    ∙ ap shape_left (sym c.only-in-Nodes.ensures)
