-- The text of a book.
use Rattle.std.specs.Prelude.{ℕ, List, [], ◌∷◌, ◌++◌, codes, decimal, Option, Some, None}
use Rattle.fx_vectors.specs.Effects.{numbers_of}
use Rattle.fx_vectors.specs.declared.shape.Shape.{Shape}
use Rattle.fx_vectors.specs.declared.question.Demands.{Demands}
use Rattle.fx_vectors.specs.declared.question.Demands.TheVariants.{Resolution, Effects}
use Rattle.fx_vectors.specs.declared.book.Book.{Book}
use Rattle.fx_vectors.specs.declared.book.Head.{Head}
use Rattle.fx_vectors.specs.Shape.{dimensions_of}
use Rattle.fx_book.specs.declared.version.Version.{Version}
use Rattle.fx_book.specs.declared.version.Version.TheVariants.{Second}
use Rattle.fx_book.specs.Entries.{entries_text}
use Rattle.fx_book.specs.Versions.{title_of}

-- numbers, a blank before each
abbrev pub spaced : List ℕ → List ℕ
spaced [] = []
spaced (n ∷ numbers) = codes " " ++ (decimal n ++ spaced numbers)

-- a line: a word, and numbers with a blank before each
abbrev pub line_text : List ℕ → List ℕ → List ℕ
line_text word numbers = word ++ (spaced numbers ++ codes "\n")

abbrev pub shape_text : Shape → List ℕ
shape_text shape = codes "size" ++ (spaced (shape.q ∷ shape.m ∷ shape.s ∷ shape.t ∷ []) ++ codes "\n")

abbrev pub demands_text : Demands → List ℕ
demands_text (Resolution r) = codes "resolution" ++ (spaced (r ∷ []) ++ codes "\n")
demands_text (Effects estimate nonnegligible) =
    codes "effects"
    ++ (spaced (numbers_of estimate) ++ (codes " /" ++ (spaced (numbers_of nonnegligible) ++ codes "\n")))

abbrev pub beat_text : Option (List ℕ) → List ℕ
beat_text None = codes "pattern none\n"
beat_text (Some pattern) = codes "pattern" ++ (spaced pattern ++ codes "\n")

-- lines 2 to 4, which say what a book is about
abbrev pub head_text : Head → List ℕ
head_text head = shape_text head.question.shape ++ (demands_text head.question.demands ++ beat_text head.beat)

-- the text of a book in a version
abbrev pub text_in : Version → Book → List ℕ
text_in version book =
    title_of version
    ++ (codes "\n"
    ++ (shape_text book.head.question.shape
    ++ (demands_text book.head.question.demands
    ++ (beat_text book.head.beat
    ++ (entries_text version (dimensions_of book.head.question.shape) book.marks ++ codes "END\n")))))

-- the text that is written
abbrev pub book_text : Book → List ℕ
book_text book = text_in Second book
