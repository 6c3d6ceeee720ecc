use Rattle.std.proofs.Common.{◌≡◌, refl, sym, ap, ◌∙◌}
use Rattle.fx_table_book.specs.Tables.{claim_of, entries_of}
use Rattle.fx_table_check.specs.Goals.{claim_in}
use Rattle.fx_table_check.specs.Checking.{flaw_of, verdict_of}
use Rattle.fx_table_check.proofs.Good.{proved}
use Rattle.fx_table_check.proofs.walk.check_table.Goals as goal
use Rattle.fx_table_check.proofs.walk.check_table.Goals.{After-walk}

is : (c : After-walk)
    → c.walk.result ≡ verdict_of (flaw_of (claim_of c.args.book.now) (entries_of c.args.book.now.entries))
is c =
    c.walk.ensures
    ∙ ap (λ v. verdict_of
    (flaw_of (claim_in v.base c.in_ok-goal.goal) (entries_of c.args.book.now.entries)))
    c.in_ok-prefix.ensures
    ∙ ap (λ x. verdict_of (flaw_of x (entries_of c.args.book.now.entries))) c.in_ok-goal.ensures.claim

pub returns-clause-verdict : goal.returns-clause-verdict
returns-clause-verdict c = is (goal.at.returns-clause-verdict c).After-walk

pub returns-clause-proved : goal.returns-clause-proved
returns-clause-proved c = λ ok.
    proved c.args.book.now.base c.requires.base _ refl _
    (sym (is (goal.at.returns-clause-proved c).After-walk) ∙ ok) c.requires.proper.factors

pub walk-requires-clause-entries : goal.walk-requires-clause-entries
walk-requires-clause-entries c =
    rw c.in_ok-prefix.ensures c.requires.entries
