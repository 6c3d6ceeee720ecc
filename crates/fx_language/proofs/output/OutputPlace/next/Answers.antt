use Rattle.std.proofs.Common.{ap, sym, ◌∙◌, ◌||◌}
use Rattle.fx_language.specs.declared.symbol.Symbol.TheVariants.{Equals, Close, Whole, Out}
use Rattle.fx_language.specs.Symbols.{is, is_word}
use Rattle.fx_language.specs.Shapes.{derivative}
use Rattle.fx_language.specs.declared.state.State.TheVariants.{Output}
use Rattle.fx_language.specs.declared.output.OutputPlace.TheVariants as output
use Rattle.fx_language.specs.Continuations.{output_left, shape_left}
use Rattle.fx_language.proofs.Keys.{one}
use Rattle.fx_language.proofs.output.OutputPlace.next.Goals as goal

pub returns-in-Out : goal.returns-in-Out
returns-in-Out c =
    ap (λ place. derivative c.args.symbol (output_left place)) c.in-Out.is
    ∙ one (is Out c.args.symbol) (Output output.Equals)
    ∙ ap shape_left (sym c.only.ensures)

pub returns-in-Equals : goal.returns-in-Equals
returns-in-Equals c =
    ap (λ place. derivative c.args.symbol (output_left place)) c.in-Equals.is
    ∙ one (is Equals c.args.symbol) (Output output.DataSet)
    ∙ ap shape_left (sym c.only-in-Equals.ensures)

pub returns-in-DataSet : goal.returns-in-DataSet
returns-in-DataSet c =
    ap (λ place. derivative c.args.symbol (output_left place)) c.in-DataSet.is
    ∙ one (is_word c.args.symbol) (Output output.Options)
    ∙ ap shape_left (sym c.any_word.ensures)

pub returns-in-Options : goal.returns-in-Options
returns-in-Options c = cc (c.in-Options.is, c.option.ensures)

pub returns-in-ReplicationEquals : goal.returns-in-ReplicationEquals
returns-in-ReplicationEquals c =
    ap (λ place. derivative c.args.symbol (output_left place)) c.in-ReplicationEquals.is
    ∙ one (is Equals c.args.symbol) (Output output.Replication)
    ∙ ap shape_left (sym c.only-in-ReplicationEquals.ensures)

pub returns-in-Replication : goal.returns-in-Replication
returns-in-Replication c =
    ap (λ place. derivative c.args.symbol (output_left place)) c.in-Replication.is
    ∙ one (is Whole c.args.symbol || is_word c.args.symbol) (Output output.Options)
    ∙ ap shape_left (sym c.number_or_word.ensures)

pub returns-in-Randomize : goal.returns-in-Randomize
returns-in-Randomize c =
    cc (c.in-Randomize.is, c.seed_or_option.ensures)

pub returns-in-Seed : goal.returns-in-Seed
returns-in-Seed c =
    ap (λ place. derivative c.args.symbol (output_left place)) c.in-Seed.is
    ∙ one (is Whole c.args.symbol) (Output output.SeedEnd)
    ∙ ap shape_left (sym c.only-in-Seed.ensures)

pub returns-in-SeedEnd : goal.returns-in-SeedEnd
returns-in-SeedEnd c =
    ap (λ place. derivative c.args.symbol (output_left place)) c.in-SeedEnd.is
    ∙ one (is Close c.args.symbol) (Output output.Options)
    ∙ ap shape_left (sym c.only-in-SeedEnd.ensures)

pub returns-in-FirstInBrackets : goal.returns-in-FirstInBrackets
returns-in-FirstInBrackets c =
    ap (λ place. derivative c.args.symbol (output_left place)) c.in-FirstInBrackets.is
    ∙ one (is_word c.args.symbol) (Output output.InBrackets)
    ∙ ap shape_left (sym c.any_word-in-FirstInBrackets.ensures)

pub returns-in-InBrackets : goal.returns-in-InBrackets
returns-in-InBrackets c =
    cc (c.in-InBrackets.is, c.name_or_end.ensures)

pub returns-in-ColumnEquals : goal.returns-in-ColumnEquals
returns-in-ColumnEquals c =
    ap (λ place. derivative c.args.symbol (output_left place)) c.in-ColumnEquals.is
    ∙ one (is Equals c.args.symbol) (Output output.Column)
    ∙ ap shape_left (sym c.only-in-ColumnEquals.ensures)

pub returns-in-Column : goal.returns-in-Column
returns-in-Column c =
    ap (λ place. derivative c.args.symbol (output_left place)) c.in-Column.is
    ∙ one (is_word c.args.symbol) (Output output.ColumnValues)
    ∙ ap shape_left (sym c.any_word-in-Column.ensures)

pub returns-in-ColumnValues : goal.returns-in-ColumnValues
returns-in-ColumnValues c =
    cc (c.in-ColumnValues.is, c.values_or_option.ensures)

pub returns-in-ValuesOrFactor : goal.returns-in-ValuesOrFactor
returns-in-ValuesOrFactor c =
    cc (c.in-ValuesOrFactor.is, c.rest_or_values.ensures)

pub returns-in-Factor : goal.returns-in-Factor
returns-in-Factor c = cc (c.in-Factor.is, c.values.ensures)
