-- At each place the grammar has texts left.
use Rattle.std.proofs.Common.{◌≡◌, false, Option, Some, None, refl}
use Rattle.std.specs.Prelude.{is_none}
use Rattle.fx_language.specs.Shapes.{is_never}
use Rattle.fx_language.specs.declared.state.State.{State}
use Rattle.fx_language.specs.declared.state.State.TheVariants as state
use Rattle.fx_language.specs.declared.proc.ProcPlace.{ProcPlace}
use Rattle.fx_language.specs.declared.proc.ProcPlace.TheVariants as proc
use Rattle.fx_language.specs.declared.factors.FactorsPlace.{FactorsPlace}
use Rattle.fx_language.specs.declared.factors.FactorsPlace.TheVariants as factors
use Rattle.fx_language.specs.declared.setting.SettingPlace.{SettingPlace}
use Rattle.fx_language.specs.declared.setting.SettingPlace.TheVariants as setting
use Rattle.fx_language.specs.declared.model.ModelPlace.{ModelPlace}
use Rattle.fx_language.specs.declared.model.ModelPlace.TheVariants as model
use Rattle.fx_language.specs.declared.effects.EffectList.{EffectList}
use Rattle.fx_language.specs.declared.effects.EffectPlace.{EffectPlace}
use Rattle.fx_language.specs.declared.effects.EffectPlace.TheVariants as place
use Rattle.fx_language.specs.declared.examine.ExaminePlace.{ExaminePlace}
use Rattle.fx_language.specs.declared.examine.ExaminePlace.TheVariants as examine
use Rattle.fx_language.specs.declared.foldover.FoldoverPlace.{FoldoverPlace}
use Rattle.fx_language.specs.declared.foldover.FoldoverPlace.TheVariants as foldover
use Rattle.fx_language.specs.declared.output.OutputPlace.{OutputPlace}
use Rattle.fx_language.specs.declared.output.OutputPlace.TheVariants as output
use Rattle.fx_language.specs.declared.values.ValuesPlace.{ValuesPlace}
use Rattle.fx_language.specs.declared.values.ValuesPlace.TheVariants as listed
use Rattle.fx_language.specs.Continuations.{proc_left, factors_left, setting_left, model_left, effects_left}
use Rattle.fx_language.specs.Continuations.{examine_left, foldover_left, output_left, values_left, shape_at, shape_left}

in_proc_statement : (p : ProcPlace) → is_never (proc_left p) ≡ false
in_proc_statement proc.Procedure = refl
in_proc_statement p = refl

in_factors : (p : FactorsPlace) → is_never (factors_left p) ≡ false
in_factors factors.First = refl
in_factors p = refl

in_setting : (p : SettingPlace) → is_never (setting_left p) ≡ false
in_setting setting.SizeWord = refl
in_setting p = refl

in_model : (p : ModelPlace) → is_never (model_left p) ≡ false
in_model model.Word = refl
in_model p = refl

in_effects : (l : EffectList) (p : EffectPlace) → is_never (effects_left l p) ≡ false
in_effects l place.Equals = refl
in_effects l p = refl

in_examine : (p : ExaminePlace) → is_never (examine_left p) ≡ false
in_examine examine.Sections = refl
in_examine p = refl

in_foldover : (p : FoldoverPlace) → is_never (foldover_left p) ≡ false
in_foldover foldover.Items = refl
in_foldover p = refl

in_output_statement : (p : OutputPlace) → is_never (output_left p) ≡ false
in_output_statement output.Out = refl
in_output_statement p = refl

in_values : (p : ValuesPlace) → is_never (values_left p) ≡ false
in_values listed.Number = refl
in_values p = refl

pub at_place : (p : State) → is_never (shape_at p) ≡ false
at_place state.Between = refl
at_place state.Closing = refl
at_place state.Ended = refl
at_place state.Step = refl
at_place state.StatementEnd = refl
at_place (state.Proc p) = in_proc_statement p
at_place (state.Factors p) = in_factors p
at_place (state.Setting p) = in_setting p
at_place (state.Model p) = in_model p
at_place (state.Effects l p) = in_effects l p
at_place (state.Examine p) = in_examine p
at_place (state.Foldover p) = in_foldover p
at_place (state.Output p) = in_output_statement p
at_place (state.Values p) = in_values p

-- no text is left only where there is no place
pub never_left : (p : Option State) → is_never (shape_left p) ≡ is_none p
never_left None = refl
never_left (Some p) = at_place p
