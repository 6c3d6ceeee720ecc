-- Every output of a step that is accepted keeps the step's limits.
use Rattle.std.proofs.Common.{◌≡◌, ℕ, ◌*◌, ◌≤◌, Bool, true, false, List, [], ◌∷◌, ◌++◌, length, Result, Ok, Err}
use Rattle.std.proofs.Common.{refl, sym, ap, subst, ◌∙◌}
use Rattle.std.specs.Prelude.{All, if◌then◌else◌, slice_get}
use Rattle.std.proofs.lemmas.List.Elements.{All-nil, All-push}
use Rattle.fx_language.specs.declared.symbol.Symbol.TheVariants.{Pointrep, Designrep}
use Rattle.fx_language.specs.Symbols.{is}
use Rattle.fx_text.specs.declared.refusal.Refusal.{Refusal}
use Rattle.fx_text.specs.Written.{Written}
use Rattle.fx_text.specs.Refusals.{◌>>=◌}
use Rattle.fx_outputs.specs.declared.earlier.EarlierPlan.{EarlierPlan}
use Rattle.fx_outputs.specs.declared.output.OutputSpec.{OutputSpec}
use Rattle.fx_outputs.specs.declared.replication.Rep.{Rep}
use Rattle.fx_outputs.specs.declared.replication.Rep.TheVariants.{Times}
use Rattle.fx_outputs.specs.Contexts.{Context}
use Rattle.fx_outputs.specs.DerivedFactors.{AreDerived, AreFree}
use Rattle.fx_outputs.specs.Options.{option_of, options_of}
use Rattle.fx_outputs.specs.Earlier.{rep_rows}
use Rattle.fx_outputs.specs.Outputs.{output_spec, outputs_behind, outputs_of, plan_behind}
use Rattle.fx_outputs.specs.Validity.{AreRecodes, IsWithinLimits}
use Rattle.fx_outputs.proofs.Accepted.{repeated, values_of_blocks}
use Rattle.fx_outputs.proofs.AcceptedColumns.{all_columns}
use Rattle.fx_outputs.proofs.Taken.{each_rep, few_rows, taken}

rows_by : (earlier : List EarlierPlan) (runs each all : ℕ) (point design : Rep) → point ≡ Times each
    → design ≡ Times all
    → runs * rep_rows earlier point * rep_rows earlier design ≤ 200000 → runs * each * all ≤ 200000
rows_by earlier runs each all point design e1 e2 h =
    rw e2 at (rw e1 at h)

module _ (context : Context) where
  output_within : (earlier : List EarlierPlan) (word name : Written) (s : List (List Written)) (output : OutputSpec)
      → output_spec context earlier word name s ≡ Ok output → IsWithinLimits context output
  output_within earlier word name s output e =
      let t = taken context earlier word name s output e in
      let reps = each_rep earlier s (output.pointrep, output.designrep) t.reps in
      let known = all_columns context s t.columns t.read in
      record {
        pointrep = record {
          some =
              λ n is. repeated earlier (slice_get (option_of Pointrep s) 2) n
              (reps.point ∙ ap (λ r. Ok r) is);
        };
        designrep = record {
          some =
              λ n is. repeated earlier (slice_get (option_of Designrep s) 2) n
              (reps.design ∙ ap (λ r. Ok r) is);
        };
        rows =
            λ each all e1 e2. rows_by earlier context.runs each all output.pointrep output.designrep e1 e2
            (few_rows context earlier word name s output e);
        recodes = subst (AreRecodes context) (sym t.recodes_are) known.recodes;
        derived =
            subst (AreDerived context.q (length context.factors)) (sym t.derived_are) known.derived;
        free =
            rw t.derived_are (subst (AreFree t.columns.derived) (sym t.recodes_are) known.free);
        block_values =
            values_of_blocks context.blocks _
            output.block_values t.values;
      }

  first : (outputs all : List OutputSpec) (flag : Bool) (read : Result OutputSpec Refusal)
      (later : OutputSpec → Result (List OutputSpec) Refusal) (passed : Result (List OutputSpec) Refusal)
      → ((output : OutputSpec) → read ≡ Ok output → IsWithinLimits context output)
      → ((output : OutputSpec) → All (IsWithinLimits context) (outputs ++ output ∷ []) → later output ≡ Ok all
      → All (IsWithinLimits context) all)
      → (passed ≡ Ok all → All (IsWithinLimits context) all)
      → All (IsWithinLimits context) outputs
      → (if flag then (read >>= later) else passed) ≡ Ok all → All (IsWithinLimits context) all
  first outputs all false read later passed within go pass h e = pass e
  first outputs all true (Err refusal) later passed within go pass h e = cc e
  first outputs all true (Ok output) later passed within go pass h e =
      go output (All-push (IsWithinLimits context) outputs output h (within output refl)) e

  within : (statements : List (List Written)) (earlier : List EarlierPlan) (outputs all : List OutputSpec)
      → All (IsWithinLimits context) outputs
      → outputs_behind context earlier outputs statements ≡ Ok all → All (IsWithinLimits context) all
  within [] earlier outputs all h e = let same : outputs ≡ all = cc e in subst (All (IsWithinLimits context)) same h
  within ([] ∷ rest) earlier outputs all h e = within rest earlier outputs all h e
  within ((a ∷ []) ∷ rest) earlier outputs all h e = within rest earlier outputs all h e
  within ((a ∷ b ∷ []) ∷ rest) earlier outputs all h e = within rest earlier outputs all h e
  within ((a ∷ b ∷ c ∷ []) ∷ rest) earlier outputs all h e = within rest earlier outputs all h e
  within ((a ∷ b ∷ c ∷ d ∷ options) ∷ rest) earlier outputs all h e =
      first outputs all _ _
      _
      _
      (output_within earlier a d (options_of (d ∷ options)))
      (λ output good more. within rest (earlier ++ plan_behind context earlier output ∷ []) (outputs ++ output ∷ []) all
      good more)
      (within rest earlier outputs all h) h e

  pub all_within : (earlier : List EarlierPlan) (statements : List (List Written)) (all : List OutputSpec)
      → outputs_of context earlier statements ≡ Ok all → All (IsWithinLimits context) all
  all_within earlier statements all e = within statements earlier [] all (All-nil _) e
