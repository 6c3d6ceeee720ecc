use Rattle.std.proofs.Common.{map, sym, ap, ◌∙◌}
use Rattle.fx_program.specs.CommandLine.{bytes_of, command_with}
use Rattle.fx_program.proofs.WordFaults.{words-fault}
use Rattle.fx_program.proofs.Wording.{no_word, some_words}
use Rattle.fx_program.proofs.words.read_words.Goals as goal

pub returns-in-Some-clause-settings : goal.returns-in-Some-clause-settings
returns-in-Some-clause-settings c =
    c.command_with.ensures.settings
    ∙ ap (λ w. command_with w (map (λ v. v.items) c.in-Some.options.now)) c.as_slice.ensures.value
    ∙ sym (some_words (λ v. v.items) c.args.words.now c.in-Some.command.now c.in-Some.options.now
    c.in-Some.ensures.cases.0)

pub returns-in-None-clause-settings : goal.returns-in-None-clause-settings
returns-in-None-clause-settings c = sym (no_word (λ v. v.items) c.args.words.now c.in-None.ensures.cases)

pub returns-in-Some-clause-fault : goal.returns-in-Some-clause-fault
returns-in-Some-clause-fault c =
    words-fault (bytes_of c.args.words.now) c.command_with.result (returns-in-Some-clause-settings c)
