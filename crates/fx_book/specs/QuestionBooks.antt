-- The book of a question: why it has no answer, or none of less pattern.
use Rattle.std.specs.Prelude.{ℕ, ◌||◌, not, Bool, if◌then◌else◌, List, Option, None, is_some}
use Rattle.std.specs.Option.{option_map}
use Rattle.fx_designs.specs.Problems.{Dimensions, Problem, Requirement, AtResolution, ForEffects}
use Rattle.fx_designs.specs.Answers.{answer}
use Rattle.fx_designs.specs.Nodes.{marks}
use Rattle.fx_designs.specs.Patterns.{pattern_of}
use Rattle.fx_vectors.specs.declared.shape.Shape.{Shape}
use Rattle.fx_vectors.specs.declared.question.Demands.{Demands}
use Rattle.fx_vectors.specs.declared.question.Demands.TheVariants.{Resolution, Effects}
use Rattle.fx_vectors.specs.declared.book.Head.{Head}
use Rattle.fx_vectors.specs.declared.book.Book.{Book}
use Rattle.fx_book.specs.Demands.{numbered_effects}

-- a question has a book where it has no answer, or asks for a least pattern
abbrev pub has_book : Problem → Bool
has_book p = p.least || not (is_some (answer p))

-- the pattern that no design is to beat: that of the answer, where a least one is asked
abbrev pub beat_of : Problem → Option (List ℕ)
beat_of p = if p.least then option_map (pattern_of p.dimensions) (answer p) else None

-- the shape of these dimensions, and the demands that require this
abbrev pub shape_of : Dimensions → Shape
shape_of d = record { q = d.q; m = d.m; s = d.s; t = d.t }

abbrev pub demands_for : Requirement → Demands
demands_for (AtResolution r) = Resolution r
demands_for (ForEffects estimate besides) = Effects (numbered_effects estimate) (numbered_effects besides)

-- what the book of a question is about: a least pattern only where there is one to beat
abbrev pub head_for : Problem → Head
head_for p = record {
  question = record { shape = shape_of p.dimensions; demands = demands_for p.requirement; least = is_some (beat_of p) };
  beat = beat_of p;
}

-- the book of a question: the marks of all its nodes
abbrev pub book_for : Problem → Book
book_for p = record { head = head_for p; marks = marks p }
