use Rattle.std.proofs.Common.{sym, ◌∙◌}
use Rattle.std.proofs.lemmas.List.Elements.{All-contains}
use Rattle.fx_outputs.specs.Validity.{HasItsNames}
use Rattle.fx_statements.specs.Contexts.{context}
use Rattle.fx_program.proofs.plans.asked_plan.Goals as goal

pub invariant_of-result : goal.invariant_of-result
invariant_of-result c =
    let step = c.args.step.now in
    let names =
    All-contains (HasItsNames (context step.factors step.settings)) step.outputs c.args.output.now step.output_names
    c.requires.among in
    record {
      among = c.requires.among;
      short = names.name.1;
      design = λ own e. c.requires.outcome.design own (sym c.copied.ensures ∙ e);
    }
