-- OUTPUT statements: the files that a step writes.
use Rattle.std.specs.Prelude.{ℕ, ◌*◌, is_some, List, [], ◌∷◌, ◌++◌, map, drop, slice_get, Result, Ok, Err}
use Rattle.std.specs.Prelude.{if◌then◌else◌}
use Rattle.fx_language.specs.declared.code.TheConstants.{REPEATED_OUT_NAME}
use Rattle.fx_language.specs.declared.symbol.Symbol.TheVariants.{Output, Blockname}
use Rattle.fx_language.specs.Symbols.{is}
use Rattle.fx_text.specs.declared.refusal.Refusal.{Refusal}
use Rattle.fx_text.specs.Written.{Written}
use Rattle.fx_text.specs.Names.{place_of}
use Rattle.fx_text.specs.Refusals.{refusal_at, ◌>>=◌}
use Rattle.fx_outputs.specs.declared.earlier.EarlierPlan.{EarlierPlan}
use Rattle.fx_outputs.specs.declared.output.OutputSpec.{OutputSpec}
use Rattle.fx_outputs.specs.Contexts.{Context}
use Rattle.fx_outputs.specs.Options.{option_of, options_of}
use Rattle.fx_outputs.specs.Earlier.{plan_names, rep_rows}
use Rattle.fx_outputs.specs.Replications.{reps_of, check_rows}
use Rattle.fx_outputs.specs.Shuffles.{shuffle_of}
use Rattle.fx_outputs.specs.BlockColumns.{check_blockname, check_column, name_or_empty, block_values}
use Rattle.fx_outputs.specs.Columns.{columns_of}
use Rattle.fx_outputs.specs.OwnColumns.{own_columns}
use Rattle.fx_outputs.specs.FileColumns.{check_columns}

-- the OUT name is not an earlier one, or E18 at the name
abbrev pub check_new_name : List (List ℕ) → Written → Result (Unit {0}) Refusal
check_new_name earlier name =
    if is_some (place_of name.text earlier) then Err (refusal_at REPEATED_OUT_NAME name) else Ok tt

-- An OUTPUT statement after these plans: `word` is the word OUTPUT, `name` the OUT name.
abbrev pub output_spec : Context → List EarlierPlan → Written → Written → List (List Written)
    → Result OutputSpec Refusal
output_spec context earlier word name options =
    let blockname = option_of Blockname options in
    let block_name = name_or_empty (slice_get blockname 2) in
    do
      _ ← check_new_name (plan_names earlier) name
      reps ← reps_of earlier options
      _ ← check_rows context.runs (rep_rows earlier reps.0) (rep_rows earlier reps.1) name
      shuffle ← shuffle_of options
      _ ← check_blockname context.blocks (slice_get blockname 0)
      _ ← check_column context word (slice_get blockname 2)
      values ← block_values context.blocks (drop 3 blockname)
      columns ← columns_of context options
      _ ← check_columns context earlier reps block_name columns.derived options
      Ok (record {
        name = name.text;
        pointrep = reps.0;
        designrep = reps.1;
        shuffle = shuffle;
        recodes = columns.recodes;
        derived = columns.derived;
        block_name = block_name;
        block_values = values;
      })

-- what later statements need of an accepted one, after the earlier plans
abbrev pub plan_behind : Context → List EarlierPlan → OutputSpec → EarlierPlan
plan_behind context earlier output = record {
  name = output.name;
  rows = context.runs * rep_rows earlier output.pointrep * rep_rows earlier output.designrep;
  own = own_columns context output.block_name output.derived;
  pointrep = output.pointrep;
  designrep = output.designrep;
}

-- The OUTPUT statements among these, in order, after the outputs that were read before. `earlier` are the plans that
-- precede in the program. An OUTPUT statement begins `OUTPUT OUT = name`.
abbrev pub outputs_behind : Context → List EarlierPlan → List OutputSpec → List (List Written)
    → Result (List OutputSpec) Refusal
outputs_behind context earlier outputs [] = Ok outputs
outputs_behind context earlier outputs ((word ∷ out ∷ equals ∷ name ∷ options) ∷ rest) =
    if is Output word.symbol
    then (output_spec context earlier word name (options_of (name ∷ options))
    >>= λ output.
    outputs_behind context (earlier ++ plan_behind context earlier output ∷ []) (outputs ++ output ∷ []) rest)
    else outputs_behind context earlier outputs rest
outputs_behind context earlier outputs (s ∷ rest) = outputs_behind context earlier outputs rest

-- the OUTPUT statements among the statements of a step
abbrev pub outputs_of : Context → List EarlierPlan → List (List Written) → Result (List OutputSpec) Refusal
outputs_of context earlier statements = outputs_behind context earlier [] statements

-- the names that OUTPUT statements give to their files
abbrev pub names_of : List OutputSpec → List (List ℕ)
names_of outputs = map (λ (o : OutputSpec). o.name) outputs
