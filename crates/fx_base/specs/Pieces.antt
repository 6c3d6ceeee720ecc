-- Lists that are held in pieces.
use Rattle.std.specs.Prelude.{List, [], ◌∷◌, ◌++◌}

-- the pieces one after another
abbrev pub joined : {T : Type 0} → List (List T) → List T
joined [] = []
joined (piece ∷ pieces) = piece ++ joined pieces
