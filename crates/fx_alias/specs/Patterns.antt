-- The section of a word-length pattern.
use Rattle.std.specs.Prelude.{ℕ, ◌==◌, ◌+◌, if◌then◌else◌, List, [], ◌∷◌, ◌++◌, codes, decimal}
use Rattle.fx_components.specs.Lines.{or_none}

-- how many words of weight k there are, by the letter of the pattern
abbrev pub words_line : List ℕ → ℕ → ℕ → List ℕ
words_line letter k x = codes "  " ++ (letter ++ (decimal k ++ (codes " " ++ (decimal x ++ codes "\n"))))

-- a line for each weight from k on that has words
abbrev pub words_lines : List ℕ → ℕ → List ℕ → List ℕ
words_lines letter k [] = []
words_lines letter k (x ∷ a) =
    (if x == 0 then words_lines letter (k + 1) a else words_line letter k x ++ words_lines letter (k + 1) a)

-- the section, which says so where there is no word
abbrev pub pattern_lines : List ℕ → List ℕ
pattern_lines a = codes "aberration\n" ++ or_none (words_lines (codes "A") 1 a)
