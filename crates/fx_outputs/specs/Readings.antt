-- That the names of an OUTPUT statement are read where the grammar has them.
use Rattle.std.specs.List.{AllByRecursion, flat_map}
use Rattle.fx_language.specs.Shapes.{Matches}
use Rattle.fx_language.specs.Grammar as grammar
use Rattle.fx_text.specs.Sentences.{symbols_in}
use Rattle.std.specs.Prelude.{ℕ, ◌≡◌, ◌<◌, ◌⊎◌, true, List, [], ◌∷◌, length, Some, slice_get, slice_index_or}
use Rattle.fx_language.specs.declared.symbol.Symbol.TheVariants.{Designrep, Pointrep}
use Rattle.fx_language.specs.Symbols.{is_word}
use Rattle.fx_text.specs.Written.{Written}
use Rattle.fx_text.specs.Names.{is_same_name}
use Rattle.fx_outputs.specs.declared.earlier.EarlierPlan.{EarlierPlan}
use Rattle.fx_outputs.specs.declared.output.OutputSpec.{OutputSpec}
use Rattle.fx_outputs.specs.declared.replication.Rep.TheVariants.{Plan}
use Rattle.fx_outputs.specs.Options.{option_of, options_of}
use Rattle.fx_outputs.specs.Earlier.{plan_names}

-- what is read from an OUTPUT statement: the OUT name, and options that are those of the grammar
pub record AreOptionsRead (s : List Written) : Type 0 where
  pub word : Written
  pub out : Written
  pub equals : Written
  pub name : Written
  pub options : List Written
  pub statement : s ≡ word ∷ out ∷ equals ∷ name ∷ options
  pub is_name : is_word name.symbol ≡ true
  pub all : options ≡ flat_map (λ part. part) (options_of (name ∷ options))
  pub each : AllByRecursion (λ part. Matches grammar.option (symbols_in part)) (options_of (name ∷ options))

-- the number is that of an earlier plan, which has the name that is written behind POINTREP or DESIGNREP
pub record IsNamed (earlier : List EarlierPlan) (option : List Written) (number : ℕ) : Type 0 where
  pub name : Written
  pub written : slice_get option 2 ≡ Some name
  pub before : number < length earlier
  pub same : is_same_name name.text (slice_index_or (plan_names earlier) number []) ≡ true

-- the plans that an OUTPUT statement names
pub record NamesEarlier (earlier : List EarlierPlan) (s : List (List Written)) (output : OutputSpec) : Type 0 where
  pub point : (number : ℕ) → output.pointrep ≡ Plan number → IsNamed earlier (option_of Pointrep s) number
  pub design : (number : ℕ) → output.designrep ≡ Plan number → IsNamed earlier (option_of Designrep s) number
