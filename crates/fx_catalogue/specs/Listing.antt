-- The lines of a catalogue as texts.
use Rattle.std.specs.Prelude.{ℕ, ◌≤◌, ◌+◌, ◌^◌, ◌==◌, length, if◌then◌else◌, List, [], ◌∷◌, ◌++◌, codes, decimal}
use Rattle.fx_designs.specs.Patterns.{resolution_of}
use Rattle.fx_catalogue.specs.declared.line.Line.{Line}
use Rattle.fx_catalogue.specs.declared.line.Line.TheVariants.{Least, Nothing, Budget}

abbrev pub head_text : ℕ → ℕ → List ℕ
head_text q m = codes "catalogue levels " ++ (decimal q ++ (codes " runs " ++ (decimal (q ^ m) ++ codes "\n")))

-- the number of words of weight k
abbrev pub count_text : ℕ → ℕ → List ℕ
count_text k words = codes " A" ++ (decimal k ++ (codes " " ++ decimal words))

-- the same for each weight from k on that has words
abbrev pub counts_from : ℕ → List ℕ → List ℕ
counts_from k [] = []
counts_from k (words ∷ a) = (if words == 0 then counts_from (k + 1) a else count_text k words ++ counts_from (k + 1) a)

-- what a line has after the number of factors
abbrev pub ending_text : ℕ → Line → List ℕ
ending_text budget (Least matrix pattern nodes book) =
    codes "nodes "
    ++ (decimal nodes ++ (codes " resolution " ++ (decimal (resolution_of pattern) ++ counts_from 1 pattern)))
ending_text budget (Nothing nodes book) = codes "nodes " ++ (decimal nodes ++ codes " none")
ending_text budget Budget = codes "budget ended after " ++ (decimal budget ++ codes " nodes")

abbrev pub line_text : ℕ → ℕ → Line → List ℕ
line_text budget factors line =
    codes "factors " ++ (decimal factors ++ (codes " " ++ (ending_text budget line ++ codes "\n")))

-- a pattern of at most 254 weights, where there is one
abbrev pub IsShort : Line → Type 0
IsShort (Least matrix pattern nodes book) = length pattern ≤ 254
IsShort (Nothing nodes book) = Unit {0}
IsShort Budget = Unit {0}
