use Rattle.std.proofs.Common.{◌≡◌, ◌≤◌, ◌-◌, take, drop, length}
use Rattle.fx_lexer.specs.Places.{place_after}
use Rattle.fx_lexer.specs.Lexing.{lexed, lexed_from, in_front}
use Rattle.fx_lexer.proofs.lexing.lex.Given as goal

abbrev pub invariant-loop-at : goal.invariant-loop-at
invariant-loop-at l =
    (l.at ≤ length l.text) × (l.place ≡ place_after (take l.at l.text))
    × (lexed l.text ≡ in_front l.tokens (lexed_from l.text 0 l.start l.at (drop l.at l.text)))

abbrev pub decreases-loop-at : goal.decreases-loop-at
decreases-loop-at l = length l.text - l.at
