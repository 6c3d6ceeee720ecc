use Rattle.std.proofs.Common.{◌≡◌, drop, Ok}
use Rattle.fx_program.specs.CommandLine.{bytes_of}
use Rattle.fx_program.specs.TableWords.{AreOptions, no_options, options_behind}
use Rattle.fx_program.proofs.table_options.options_in.Given as goal

abbrev pub invariant-loop-word : goal.invariant-loop-word
invariant-loop-word l =
    AreOptions l.m l.given
    × (options_behind l.q l.m (Ok l.given) (bytes_of (drop l.word-index l.words))
    ≡ options_behind l.q l.m (Ok no_options) (bytes_of l.words))
