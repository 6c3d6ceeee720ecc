use Rattle.std.proofs.Common.{◌≡◌, ◌+◌, drop, Ok, IfSome}
use Rattle.fx_program.specs.CommandLine.{AreThreads, IsOfExtra, bytes_of, option_count, options_behind, options_in}
use Rattle.fx_program.proofs.words.options_in.Given as goal

abbrev pub invariant-loop-word : goal.invariant-loop-word
invariant-loop-word l =
    (l.at ≡ l.place + option_count l.given)
    × IfSome l.given.threads AreThreads
    × IfSome l.given.extra (IsOfExtra l.allowed)
    × (options_behind l.at l.allowed (Ok l.given) (bytes_of (drop l.word-index l.words))
    ≡ options_in l.place l.allowed (bytes_of l.words))
