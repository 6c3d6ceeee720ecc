use Rattle.fx_table_book.specs.declared.order.Order.TheVariants.{FactorsFirst, ChengWuFirst, ChengWuSecond}
use Rattle.fx_table_book.specs.declared.order.Order.TheVariants.{SitterChenFeder, MostClear}
use Rattle.fx_table_book.specs.Tables.{strata_of}
use Rattle.fx_table_book.proofs.Turns.{weights_of}
use Rattle.fx_table_book.proofs.order.parts.Goals as goal

pub returns-in-FactorsFirst-clause-weights : goal.returns-in-FactorsFirst-clause-weights
returns-in-FactorsFirst-clause-weights c =
    weights_of (strata_of c.args.base) FactorsFirst c.factors_first.result c.factors_first.ensures

pub returns-in-ChengWuFirst-clause-weights : goal.returns-in-ChengWuFirst-clause-weights
returns-in-ChengWuFirst-clause-weights c =
    weights_of (strata_of c.args.base) ChengWuFirst c.cheng_wu_first.result c.cheng_wu_first.ensures

pub returns-in-ChengWuSecond-clause-weights : goal.returns-in-ChengWuSecond-clause-weights
returns-in-ChengWuSecond-clause-weights c =
    weights_of (strata_of c.args.base) ChengWuSecond c.cheng_wu_second.result c.cheng_wu_second.ensures

pub returns-in-SitterChenFeder-clause-weights : goal.returns-in-SitterChenFeder-clause-weights
returns-in-SitterChenFeder-clause-weights c =
    weights_of (strata_of c.args.base) SitterChenFeder c.sitter_chen_feder.result c.sitter_chen_feder.ensures

pub returns-in-MostClear-clause-weights : goal.returns-in-MostClear-clause-weights
returns-in-MostClear-clause-weights c =
    weights_of (strata_of c.args.base) MostClear c.most_clear.result c.most_clear.ensures
