use Rattle.std.proofs.Common.{◌∙◌, sym}
use Rattle.fx_program.proofs.GivenOptions.{had_none, one_more_extra}
use Rattle.fx_program.proofs.words.with_extra.Goals as goal

pub returns-clause-count : goal.returns-clause-count
returns-clause-count c =
    one_more_extra c.args.given.threads c.args.given.extra c.in_ok-number.number
    (had_none c.args.place c.args.given.extra c.within.result c.in_ok-number.number
    (sym (c.once.ensures.once c.args.given.extra (sym c.is_some.ensures)) ∙ c.in_ok-number.was))
