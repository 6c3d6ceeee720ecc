use Rattle.std.proofs.Common.{sym}
use Rattle.fx_language.specs.declared.symbol.Symbol.TheVariants.{Factors}
use Rattle.fx_text.specs.Sentences.{IsAccepted}
use Rattle.fx_statements.proofs.Parts.{found}
use Rattle.fx_statements.proofs.stepping.step_of.Goals as goal

pub step_by-requires-clause-by_grammar : goal.step_by-requires-clause-by_grammar
step_by-requires-clause-by_grammar c =
    let named =
    found IsAccepted Factors c.args.statements.now c.in-Some.named c.requires.accepted (sym c.in-Some.ensures) in
    named.0.by_its_word.factors named.1

pub step_by-requires-clause-names : goal.step_by-requires-clause-names
step_by-requires-clause-names c =
    (found IsAccepted Factors c.args.statements.now c.in-Some.named c.requires.accepted (sym c.in-Some.ensures)).0.names
