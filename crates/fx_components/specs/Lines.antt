-- The lines of a section of a listing.
use Rattle.std.specs.Prelude.{ℕ, List, [], ◌∷◌, codes}

-- the lines, or a line that says that there are none
abbrev pub or_none : List ℕ → List ℕ
or_none [] = codes "  none\n"
or_none (b ∷ lines) = b ∷ lines
