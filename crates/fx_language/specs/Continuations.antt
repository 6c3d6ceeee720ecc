-- What of the grammar is left at each place, in its own words.
use Rattle.std.specs.Prelude.{Option, Some, None}
use Rattle.fx_language.specs.declared.symbol.Symbol.{Symbol}
use Rattle.fx_language.specs.declared.symbol.Symbol.TheVariants.{Quit, Nodes, Nlev, Minimum, Maximum, Nonnegligible}
use Rattle.fx_language.specs.declared.symbol.Symbol.TheVariants.{Minabs, Quoted, Decimal, Semicolon, Equals, Open}
use Rattle.fx_language.specs.declared.symbol.Symbol.TheVariants.{Close, CloseBracket, Slash, Star, Bar, At, Minus, End}
use Rattle.fx_language.specs.Symbols.{is_left_out}
use Rattle.fx_language.specs.Shapes.{Shape, Never, Empty, Many, guarded, maybe, ◌▸◌, ◌∣◌}
use Rattle.fx_language.specs.Grammar.{key, name, n, n_or, no_open, item, factors_rest, size_rest, blocks_rest, star}
use Rattle.fx_language.specs.Grammar.{effect, list, model_rest, examine_word, value, values, replication, option}
use Rattle.fx_language.specs.Grammar.{output_rest, proc_rest, statement, step, between, unknown, program}
use Rattle.fx_language.specs.declared.state.State.{State}
use Rattle.fx_language.specs.declared.state.State.TheVariants as state
use Rattle.fx_language.specs.declared.proc.ProcPlace.{ProcPlace}
use Rattle.fx_language.specs.declared.proc.ProcPlace.TheVariants as proc
use Rattle.fx_language.specs.declared.factors.FactorsPlace.{FactorsPlace}
use Rattle.fx_language.specs.declared.factors.FactorsPlace.TheVariants as factors
use Rattle.fx_language.specs.declared.setting.Extreme.{Extreme}
use Rattle.fx_language.specs.declared.setting.Extreme.TheVariants as extreme
use Rattle.fx_language.specs.declared.setting.SettingPlace.{SettingPlace}
use Rattle.fx_language.specs.declared.setting.SettingPlace.TheVariants as setting
use Rattle.fx_language.specs.declared.model.ModelPlace.{ModelPlace}
use Rattle.fx_language.specs.declared.model.ModelPlace.TheVariants as model
use Rattle.fx_language.specs.declared.effects.EffectList.{EffectList}
use Rattle.fx_language.specs.declared.effects.EffectList.TheVariants as effects
use Rattle.fx_language.specs.declared.effects.EffectPlace.{EffectPlace}
use Rattle.fx_language.specs.declared.effects.EffectPlace.TheVariants as place
use Rattle.fx_language.specs.declared.examine.ExaminePlace.{ExaminePlace}
use Rattle.fx_language.specs.declared.examine.ExaminePlace.TheVariants as examine
use Rattle.fx_language.specs.declared.foldover.FoldoverPlace.{FoldoverPlace}
use Rattle.fx_language.specs.declared.foldover.FoldoverPlace.TheVariants as foldover
use Rattle.fx_language.specs.declared.output.OutputPlace.{OutputPlace}
use Rattle.fx_language.specs.declared.output.OutputPlace.TheVariants as output
use Rattle.fx_language.specs.declared.values.ValueKind.{ValueKind}
use Rattle.fx_language.specs.declared.values.ValueKind.TheVariants as kind
use Rattle.fx_language.specs.declared.values.ValuesPlace.{ValuesPlace}
use Rattle.fx_language.specs.declared.values.ValuesPlace.TheVariants as listed

-- what is left in a step, between its statements
abbrev pub in_step : Shape
in_step =
    Many statement
    ▸ maybe (key Quit ▸ key Semicolon ▸ between)
    ▸ Many (step ▸ maybe (key Quit ▸ key Semicolon ▸ between))
    ▸ (key End ∣ unknown)

-- the end of a statement of a step, and what is left after it
abbrev pub ending : Shape
ending = key Semicolon ▸ in_step

-- a, and after it options and the end of a PROC statement
abbrev pub in_proc : Shape → Shape
in_proc a = guarded 24 is_left_out (a ▸ Many (key Nodes ▸ key Equals ▸ n) ▸ key Semicolon) ▸ in_step

-- what is left at a place in a PROC statement
abbrev pub proc_left : ProcPlace → Shape
proc_left proc.Procedure = proc_rest ▸ in_step
proc_left proc.Options = in_proc Empty
proc_left proc.Equals = in_proc (key Equals ▸ n)
proc_left proc.Nodes = in_proc n

-- the number of levels, where it is given, and the end of FACTORS
abbrev pub levels : Shape
levels = maybe (key Slash ▸ key Nlev ▸ key Equals ▸ n) ▸ ending

-- what is left at a place in a FACTORS statement
abbrev pub factors_left : FactorsPlace → Shape
factors_left factors.First = factors_rest ▸ in_step
factors_left factors.Name = maybe (key Minus ▸ name) ▸ Many item ▸ levels
factors_left factors.Range = name ▸ Many item ▸ levels
factors_left factors.More = Many item ▸ levels
factors_left factors.Option = key Nlev ▸ key Equals ▸ n ▸ ending
factors_left factors.Equals = key Equals ▸ n ▸ ending
factors_left factors.Levels = n ▸ ending

-- the word that is allowed in the place of a number
abbrev pub extreme_word : Extreme → Symbol
extreme_word extreme.Minimum = Minimum
extreme_word extreme.Maximum = Maximum

-- what is left at a place in a SIZE or BLOCKS statement
abbrev pub setting_left : SettingPlace → Shape
setting_left setting.SizeWord = size_rest ▸ in_step
setting_left setting.BlocksWord = blocks_rest ▸ in_step
setting_left (setting.Equals e) = key Equals ▸ n_or (extreme_word e) ▸ ending
setting_left (setting.Value e) = n_or (extreme_word e) ▸ ending

-- the option of MODEL, where it is given, and the end of MODEL
abbrev pub model_option : Shape
model_option = maybe (key Slash ▸ key Minabs ▸ no_open) ▸ ending

-- what is left at a place in a MODEL statement, outside of its lists
abbrev pub model_left : ModelPlace → Shape
model_left model.Word = model_rest ▸ in_step
model_left model.Nonnegligible = maybe (key Nonnegligible ▸ key Equals ▸ list) ▸ model_option
model_left model.Equals = key Equals ▸ n_or Maximum ▸ model_option
model_left model.Resolution = n_or Maximum ▸ model_option
model_left model.Slash = model_option
model_left model.Option = key Minabs ▸ no_open ▸ ending
model_left model.End = no_open ▸ ending

-- what is left after a list of effects
abbrev pub list_left : EffectList → Shape
list_left effects.Estimate = model_left model.Nonnegligible
list_left effects.Nonnegligible = model_option

-- further effects, and the end of their list
abbrev pub more_effects : EffectList → Shape
more_effects l = Many effect ▸ key Close ▸ list_left l

-- further products after bars, and the greatest number of factors
abbrev pub crossed : Shape
crossed = Many (key Bar ▸ star) ▸ maybe (key At ▸ n)

-- what is left at a place in a list of effects
abbrev pub effects_left : EffectList → EffectPlace → Shape
effects_left l place.Equals = key Equals ▸ list ▸ list_left l
effects_left l place.Open = list ▸ list_left l
effects_left l place.First = effect ▸ more_effects l
effects_left l place.Name = (key Minus ▸ name ∣ Many (key Star ▸ name) ▸ crossed) ▸ more_effects l
effects_left l place.Range = name ▸ more_effects l
effects_left l place.Factor = star ▸ crossed ▸ more_effects l
effects_left l place.Product = Many (key Star ▸ name) ▸ crossed ▸ more_effects l
effects_left l place.Bound = n ▸ more_effects l
effects_left l place.More = more_effects l

-- what is left at a place in an EXAMINE statement
abbrev pub examine_left : ExaminePlace → Shape
examine_left examine.Sections = Many examine_word ▸ ending
examine_left examine.NoOpen = no_open ▸ Many examine_word ▸ ending

-- what is left at a place in a FOLDOVER statement
abbrev pub foldover_left : FoldoverPlace → Shape
foldover_left foldover.Items = Many item ▸ ending
foldover_left foldover.Name = maybe (key Minus ▸ name) ▸ Many item ▸ ending
foldover_left foldover.Range = name ▸ Many item ▸ ending

-- a, and after it options and the end of an OUTPUT statement
abbrev pub in_output : Shape → Shape
in_output a = a ▸ Many option ▸ ending

-- the values of a list, and its end
abbrev pub listed_values : ValueKind → Shape
listed_values kind.Numbers = value ▸ Many value ▸ key Close
listed_values kind.Texts = key Quoted ▸ Many (key Quoted) ▸ key Close

-- what is left at a place in an OUTPUT statement, outside of its lists
abbrev pub output_left : OutputPlace → Shape
output_left output.Out = output_rest ▸ in_step
output_left output.Equals = in_output (key Equals ▸ name)
output_left output.DataSet = in_output name
output_left output.Options = in_output Empty
output_left output.ReplicationEquals = in_output (key Equals ▸ replication)
output_left output.Replication = in_output replication
output_left output.Randomize = in_output (maybe (key Open ▸ n ▸ key Close))
output_left output.Seed = in_output (n ▸ key Close)
output_left output.SeedEnd = in_output (key Close)
output_left output.FirstInBrackets =
    in_output (name ▸ Many name ▸ key CloseBracket ▸ key Equals ▸ name ▸ maybe values)
output_left output.InBrackets = in_output (Many name ▸ key CloseBracket ▸ key Equals ▸ name ▸ maybe values)
output_left output.ColumnEquals = in_output (key Equals ▸ name ▸ maybe values)
output_left output.Column = in_output (name ▸ maybe values)
output_left output.ColumnValues = in_output (maybe values)
output_left (output.ValuesOrFactor k) = in_output (key Equals ▸ key Open ▸ listed_values k) ∣ in_output values
output_left output.Factor = in_output values

-- what is left at a place in a list of values
abbrev pub values_left : ValuesPlace → Shape
values_left (listed.Equals k) = in_output (key Equals ▸ key Open ▸ listed_values k)
values_left (listed.Open k) = in_output (key Open ▸ listed_values k)
values_left listed.Number = in_output (listed_values kind.Numbers)
values_left listed.Unsigned = in_output ((n ∣ key Decimal) ▸ Many value ▸ key Close)
values_left listed.MoreNumbers = in_output (Many value ▸ key Close)
values_left listed.Text = in_output (listed_values kind.Texts)
values_left listed.MoreTexts = in_output (Many (key Quoted) ▸ key Close)

-- what is left at a place
abbrev pub shape_at : State → Shape
shape_at state.Between = program
shape_at state.Closing = key Semicolon ▸ program
shape_at state.Ended = Empty
shape_at state.Step = in_step
shape_at state.StatementEnd = ending
shape_at (state.Proc p) = proc_left p
shape_at (state.Factors p) = factors_left p
shape_at (state.Setting p) = setting_left p
shape_at (state.Model p) = model_left p
shape_at (state.Effects l p) = effects_left l p
shape_at (state.Examine p) = examine_left p
shape_at (state.Foldover p) = foldover_left p
shape_at (state.Output p) = output_left p
shape_at (state.Values p) = values_left p

-- the same, and no text where there is no place
abbrev pub shape_left : Option State → Shape
shape_left None = Never
shape_left (Some place) = shape_at place
