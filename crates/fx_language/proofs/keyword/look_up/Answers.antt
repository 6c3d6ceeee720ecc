use Rattle.std.proofs.Common.{◌∙◌, arith, refl}
use Rattle.fx_language.proofs.Table.{here, further, any}
use Rattle.fx_language.proofs.keyword.look_up.Goals as goal

pub loop-spelling-preserved : goal.loop-spelling-preserved
loop-spelling-preserved c =
    c.loop-spelling.invariant
    ∙ further c.args.spellings.now c.loop-spelling.spelling-index any (omega arith) c.args.word.now
    (λ e. absurd (cc (c.if-eq_ignore_ascii_case.ensures.test.1 e)))

pub returns-then-eq_ignore_ascii_case : goal.returns-then-eq_ignore_ascii_case
returns-then-eq_ignore_ascii_case c =
    cc (
      c.loop-spelling.invariant,
      here c.args.spellings.now c.loop-spelling.spelling-index any (omega arith)
          c.args.word.now (c.if-eq_ignore_ascii_case.ensures.test.0 refl),
    )
