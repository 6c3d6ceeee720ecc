-- Each command gives some output for each text.
use Rattle.std.proofs.Common.{ℕ, List, Result, Ok, Err, refl}
use Rattle.fx_program.specs.declared.words.Settings.{Settings}
use Rattle.fx_program.specs.declared.words.Settings.TheVariants.{Run, Plan, Check, Make, Large, Judge, Upgrade}
use Rattle.fx_program.specs.declared.words.Settings.TheVariants.{Catalogue, Tables}
use Rattle.fx_program.specs.declared.word_fault.WordFault.{WordFault}
use Rattle.fx_program.specs.Commands.{Command, command_for}
use Rattle.fx_program.specs.Output.{Output}
use Rattle.fx_program.proofs.Tabulated.{open_output, open_table}

pub record GivesSome (command : Command) (text : List ℕ) : Type 0 where
  pub output : Output
  pub given : command.gives text output

pub gives_some : (asked : Result Settings WordFault) (text : List ℕ) → GivesSome (command_for asked) text
gives_some (Ok (Run threads seed)) text = record { output = _; given = refl }
gives_some (Ok (Plan seed)) text = record { output = _; given = refl }
gives_some (Ok Check) text = record { output = _; given = refl }
gives_some (Ok Upgrade) text = record { output = _; given = refl }
gives_some (Ok (Make n)) text = record { output = _; given = refl }
gives_some (Ok (Judge q)) text = record { output = _; given = refl }
gives_some (Ok (Large n threads)) text = record { output = _; given = refl }
gives_some (Ok (Catalogue q m most threads nodes)) text = record { output = _; given = refl }
gives_some (Ok (Tables asked)) text = record { output = open_output asked; given = open_table asked }
gives_some (Err fault) text = record { output = _; given = refl }
