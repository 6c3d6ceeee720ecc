use Rattle.fx_program_laws.proofs.FileNames.{names_differ, planned_names_differ}
use Rattle.fx_program_laws.proofs.laws.file_names_differ.Goals as goal

pub returns-clause-run : goal.returns-clause-run
returns-clause-run c seed text = names_differ seed text

pub returns-clause-planned : goal.returns-clause-planned
returns-clause-planned c seed text = planned_names_differ seed text
