use Rattle.std.proofs.Common.{arith}
use Rattle.fx_program.proofs.TableLimits.{all_words_fit}
use Rattle.fx_program.proofs.table_words.has_few_words.Goals as goal

pub pow-requires : goal.pow-requires
pow-requires c =
    let fits = all_words_fit c.args.q c.requires.levels c.args.factors c.requires.factors in
    rw (c.from.ensures, c.from-2.ensures) (omega (arith, fits))
