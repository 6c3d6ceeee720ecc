-- The words of a command line.
use Rattle.std.specs.Prelude.{ℕ, List, map, drop, string_bytes, String}

-- those after the program's name
abbrev pub words_in : {A : Type 0} → List (String A) → List (List ℕ)
words_in parts = drop 1 (map string_bytes parts)
