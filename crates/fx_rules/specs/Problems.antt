-- The numbers by which messages name what is wrong with rules.
use Rattle.std.specs.Prelude.{ℕ}
use Rattle.fx_rules.specs.declared.problem.Problem.{Problem}
use Rattle.fx_rules.specs.declared.problem.Problem.TheVariants.{Form, Unknown, OutOfOrder, NotBefore, Repeated, Power}
use Rattle.fx_rules.specs.declared.problem.Problem.TheVariants.{TooMany, NotNext}

-- 1 for P1
abbrev pub code_of : Problem → ℕ
code_of Form = 1
code_of Unknown = 2
code_of OutOfOrder = 3
code_of NotBefore = 4
code_of Repeated = 5
code_of Power = 6
code_of TooMany = 7
code_of NotNext = 8
