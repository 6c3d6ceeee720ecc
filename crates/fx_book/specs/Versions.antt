-- The versions of the text of a book: their first lines, and the most factors of a shape.
use Rattle.std.specs.Prelude.{ℕ, nat_le, if◌then◌else◌, List, codes, Option, Some, None}
use Rattle.std.specs.Str.{bytes_eq}
use Rattle.fx_book.specs.declared.version.Version.{Version}
use Rattle.fx_book.specs.declared.version.Version.TheVariants.{First, Second}
use Rattle.fx_vectors.specs.declared.shape.TheConstants.{MOST_FACTORS, MOST_FACTORS_OF_MANY_LEVELS}

abbrev pub title_of : Version → List ℕ
title_of First = codes "factex-book 1"
title_of Second = codes "factex-book 2"

-- the version that a first line names
abbrev pub version_of : List ℕ → Option Version
version_of line =
    (if bytes_eq line (codes "factex-book 1")
    then Some First else (if bytes_eq line (codes "factex-book 2") then Some Second else None))

-- the most factors of a shape of q levels without block factors
abbrev pub most_factors_in : Version → ℕ → ℕ
most_factors_in First q = MOST_FACTORS_OF_MANY_LEVELS
most_factors_in Second q = (if nat_le q 3 then MOST_FACTORS else MOST_FACTORS_OF_MANY_LEVELS)
