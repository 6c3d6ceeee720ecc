use Rattle.std.proofs.Common.{◌∙◌, sym, ap, arith}
use Rattle.fx_vectors.specs.Question.{requirement_of}
use Rattle.fx_vectors.proofs.Limits.{words_fit}
use Rattle.fx_search.proofs.for_effects.forbidden_vectors_of.Goals as goal

pub returns-in_ok-words-in-Effects : goal.returns-in_ok-words-in-Effects
returns-in_ok-words-in-Effects c =
    record {
      all = λ estimate besides asked d q s.
          rw (sym (ap requirement_of c.in-Effects.is) ∙ asked) at
          (c.in_ok-words-in-Effects.ensures d (q ∙ sym c.field.ensures) s);
    }

pub forbidden_vectors-requires-clause-fits : goal.forbidden_vectors-requires-clause-fits
forbidden_vectors-requires-clause-fits c =
    let shape = c.args.question.now.shape in
    rw c.field.ensures (words_fit shape c.requires.shaped shape.s (omega arith))
