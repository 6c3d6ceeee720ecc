use Rattle.fx_effects.proofs.model.effects_after.Goals as goal

pub returns-clause-refused : goal.returns-clause-refused
returns-clause-refused c =
    rw (
      c.lexemes.ensures,
      c.lexemes-2.ensures,
      c.before-first.ensures,
      c.before-others.ensures,
      c.from.ensures,
      c.first_or-other_word.ensures,
      c.after-rest.ensures,
    ) at c.lists_at.ensures.refused
