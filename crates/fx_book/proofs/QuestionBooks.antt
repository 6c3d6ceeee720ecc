-- The book of a question, by its parts.
use Rattle.std.proofs.Common.{ℕ, ◌≡◌, true, List, Option, Some, None, is_some, refl, sym, ap, ◌∙◌, inl, inr}
use Rattle.std.specs.Option.{option_map}
use Rattle.std.proofs.lemmas.Bool.{cases_Bool, cond-true, cond-false}
use Rattle.fx_designs.specs.Problems.{Problem}
use Rattle.fx_designs.specs.Answers.{answer}
use Rattle.fx_designs.specs.Nodes.{Mark, marks}
use Rattle.fx_designs.specs.Patterns.{pattern_of}
use Rattle.fx_vectors.specs.declared.shape.Shape.{Shape}
use Rattle.fx_vectors.specs.declared.question.Question.{Question}
use Rattle.fx_vectors.specs.declared.question.Demands.{Demands}
use Rattle.fx_vectors.specs.declared.question.Demands.TheVariants.{Resolution, Effects}
use Rattle.fx_vectors.specs.declared.book.Book.{Book}
use Rattle.fx_vectors.specs.Question.{problem_of, requirement_of}
use Rattle.fx_book.specs.QuestionBooks.{beat_of, book_for, demands_for}
use Rattle.fx_book.proofs.Listed.{effects-numbers}

-- demands are those that require what they do
demands_back : (demands : Demands) → demands_for (requirement_of demands) ≡ demands
demands_back (Resolution r) = refl
demands_back (Effects estimate others) =
    cc (effects-numbers estimate, effects-numbers others)

-- a book by its parts
abbrev book_with : Shape → Demands → Option (List ℕ) → List Mark → Book
book_with shape demands beat entries = record {
  head = record { question = record { shape = shape; demands = demands; least = is_some beat }; beat = beat };
  marks = entries;
}

module _ (question : Question) (entries : List Mark) (own : entries ≡ marks (problem_of question)) where
  abbrev p : Problem
  p = problem_of question

  by_beat : (beat : Option (List ℕ)) → beat_of p ≡ beat
      → book_for p ≡ book_with question.shape question.demands beat entries
  by_beat beat is =
      cc (demands_back question.demands)

  -- without an answer there is no pattern to beat
  pub book_of_none : answer p ≡ None → book_for p ≡ book_with question.shape question.demands None entries
  book_of_none is = by_beat None none
    where
      none : beat_of p ≡ None
      none = elim (cases_Bool p.least) [
        | inl l ↦ cond-true p.least _ _ l ∙ ap (option_map (pattern_of p.dimensions)) is
        | inr l ↦ cond-false p.least _ _ l
      ]

  -- where there is one, the question is for a least pattern
  pub book_of_least : (beat : List ℕ) → beat_of p ≡ Some beat
      → record { head = record { question = question; beat = Some beat }; marks = entries } ≡ book_for p
  book_of_least beat is =
      ap (λ b. record {
        head = record {
          question = record { shape = question.shape; demands = question.demands; least = b };
          beat = Some beat;
        };
        marks = entries;
      }) least
      ∙ sym (by_beat (Some beat) is)
    where
      least : question.least ≡ true
      least = elim (cases_Bool p.least) [
        | inl l ↦ l
        | inr l ↦ absurd (let f : None ≡ Some beat = sym (cond-false p.least _ _ l) ∙ is in cc)
      ]
