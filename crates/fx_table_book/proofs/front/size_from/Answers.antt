use Rattle.std.proofs.Common.{sym, ◌∙◌}
use Rattle.fx_table_book.proofs.Shapes.{base_is}
use Rattle.fx_table_book.proofs.front.size_from.Goals as goal

pub returns-then-is_base-clause-valid : goal.returns-then-is_base-clause-valid
returns-then-is_base-clause-valid c =
    (base_is _ (sym c.is_base.ensures ∙ c.if-is_base.true)).base
