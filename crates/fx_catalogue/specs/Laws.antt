-- What the lines of a catalogue claim of all rule matrices.
use Rattle.std.specs.Prelude.{ℕ, ◌≡◌, ◌<◌, true, List, length, Option, Some, None, is_some}
use Rattle.fx_designs.specs.Problems.{Dimensions, AtResolution}
use Rattle.fx_designs.specs.Demands.{is_met}
use Rattle.fx_designs.specs.Patterns.{pattern_of}
use Rattle.fx_designs.specs.Matrices.{NoneMeets}
use Rattle.fx_designs.specs.Nodes.{nodes}
use Rattle.fx_reduction.specs.Resolutions.{HasLeastPattern}
use Rattle.fx_vectors.specs.Matrix.{MatrixView}
use Rattle.fx_vectors.specs.Shape.{dimensions_of}
use Rattle.fx_vectors.specs.declared.shape.Shape.{Shape}
use Rattle.fx_vectors.specs.declared.book.Book.{Book}
use Rattle.fx_vectors.specs.declared.book.Head.{Head}
use Rattle.fx_vectors.specs.declared.question.Demands.TheVariants.{Resolution}
use Rattle.fx_checker.specs.Books.{IsGood}
use Rattle.fx_checker.specs.Claims.{claim_of}
use Rattle.fx_catalogue.specs.declared.line.Line.{Line}
use Rattle.fx_catalogue.specs.declared.line.Line.TheVariants.{Least, Nothing, Budget}
use Rattle.fx_catalogue.specs.Lines.{problem_at}

-- the head of the book of a line of this shape: resolution 3, with the pattern that none is to beat, or with none
abbrev pub head_at : Shape → Option (List ℕ) → Head
head_at shape beat = record {
  question = record { shape = shape; demands = Resolution 3; least = is_some beat };
  beat = beat;
}

-- a whole rule matrix of resolution 3 or more, with its pattern; of all rule matrices of the shape of resolution 3 or
-- more, canonical or not, none has a less one; and the book that proves it is the line's own, and good
pub record IsLeast (shape : Shape) (matrix : MatrixView) (pattern : List ℕ) (book : Book) : Type 0 where
  pub of_shape : matrix.shape ≡ shape
  pub whole : length matrix.rows ≡ shape.s
  pub resolution : is_met (dimensions_of shape) (AtResolution 3) matrix.rows ≡ true
  pub pattern_is : pattern ≡ pattern_of (dimensions_of shape) matrix.rows
  pub least : HasLeastPattern (dimensions_of shape) (AtResolution 3) matrix.rows
  pub head_is : book.head ≡ head_at shape (Some pattern)
  pub good : IsGood (claim_of book.head) book.marks

-- no rule matrix of the shape has resolution 3 or more, and the book that proves it is the line's own, and good
pub record IsAbsent (shape : Shape) (book : Book) : Type 0 where
  pub none : NoneMeets (dimensions_of shape) (AtResolution 3)
  pub head_is : book.head ≡ head_at shape None
  pub good : IsGood (claim_of book.head) book.marks

-- what a line within this budget claims
abbrev pub Holds : Shape → ℕ → Line → Type 0
Holds shape budget (Least matrix pattern count book) = IsLeast shape matrix pattern book
Holds shape budget (Nothing count book) = IsAbsent shape book
Holds shape budget Budget = budget < length (nodes (problem_at shape))

-- the same dimensions with this number of factors
abbrev pub with_factors : Dimensions → ℕ → Dimensions
with_factors d s = record { q = d.q; m = d.m; s = s; t = d.t }
