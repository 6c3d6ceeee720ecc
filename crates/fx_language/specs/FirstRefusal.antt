-- The first symbol of a program that is refused, and its code.
use Rattle.std.specs.Prelude.{ℕ, nat_lt, List, [], Option, Some, None, if◌then◌else◌}
use Rattle.fx_language.specs.declared.symbol.Symbol.{Symbol}
use Rattle.fx_language.specs.Grammar.{program}
use Rattle.fx_language.specs.Refusals.{refused}
use Rattle.fx_language.specs.Repeats.{repeated}

-- The earlier of two refusals: of the grammar, and of the rules on what precedes. A symbol that the grammar
-- doesn't allow has the grammar's code.
abbrev pub earlier : Option (ℕ × ℕ) → Option (ℕ × ℕ) → Option (ℕ × ℕ)
earlier None rule = rule
earlier grammar None = grammar
earlier (Some g) (Some r) = if nat_lt r.1 g.1 then Some r else Some g

-- the first symbol of a program that is refused: its code, and its index
abbrev pub first_refusal : List Symbol → Option (ℕ × ℕ)
first_refusal symbols = earlier (refused 0 program symbols) (repeated [] 0 symbols)
