-- The grammar without any code, and without a word on where a step ends: `;` and `RUN ;` after a step belong to it
-- or to the program, as one likes. Its texts are those of the grammar with codes.
use Rattle.fx_language.specs.declared.symbol.Symbol.TheVariants.{Run, Quit, Semicolon, End}
use Rattle.fx_language.specs.Shapes.{Shape, Never, Empty, One, Before, Either, Many, Fault, or_else, ◌▸◌, ◌∣◌}
use Rattle.fx_language.specs.Grammar.{key, step}

-- the texts of a, each with one of b after it, where an empty b is left out
abbrev pub followed : Shape → Shape → Shape
followed a Empty = a
followed a b = a ▸ b

-- the description without its codes
abbrev pub uncoded : Shape → Shape
uncoded Never = Never
uncoded Empty = Empty
uncoded (One test) = One test
uncoded (Before a b) = followed (uncoded a) (uncoded b)
uncoded (Either a b) = or_else (uncoded a) (uncoded b)
uncoded (Many a) = Many (uncoded a)
uncoded (Fault code test) = Never

-- steps, and what is allowed between them
abbrev pub loose_program : Shape
loose_program = Many (key Semicolon ∣ key Run ▸ key Semicolon ∣ key Quit ▸ key Semicolon ∣ step) ▸ key End

-- the same without codes
abbrev pub uncoded_program : Shape
uncoded_program = uncoded loose_program
