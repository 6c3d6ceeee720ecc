-- The plans that OUTPUT statements name, and the rows of their files.
use Rattle.std.proofs.Common.{◌≡◌, ℕ, Bool, true, false, List, [], ◌∷◌, Option, Some, None, Result}
use Rattle.std.proofs.Common.{Ok, Err, refl, ap, subst, ◌∙◌}
use Rattle.std.specs.Prelude.{All, if◌then◌else◌, slice_get}
use Rattle.std.proofs.lemmas.List.{length-map}
use Rattle.std.proofs.lemmas.List.Elements.{All-push}
use Rattle.std.proofs.lemmas.List.Quantifiers.{position-Some}
use Rattle.fx_base.proofs.Lists.{each-all}
use Rattle.fx_language.specs.Symbols.{is}
use Rattle.fx_text.specs.declared.refusal.Refusal.{Refusal}
use Rattle.fx_text.specs.Names.{place_of}
use Rattle.fx_text.specs.Numbers.{number_of}
use Rattle.fx_text.specs.Refusals.{◌>>=◌}
use Rattle.fx_text.specs.Written.{Written}
use Rattle.fx_outputs.specs.declared.earlier.EarlierPlan.{EarlierPlan}
use Rattle.fx_outputs.specs.declared.output.OutputSpec.{OutputSpec}
use Rattle.fx_outputs.specs.declared.replication.Rep.TheVariants.{Times, Plan}
use Rattle.fx_outputs.specs.Contexts.{Context}
use Rattle.fx_outputs.specs.Histories.{built}
use Rattle.fx_outputs.specs.Options.{options_of}
use Rattle.fx_outputs.specs.Earlier.{HasFewRows, plan_names}
use Rattle.fx_outputs.specs.Replications.{plan_at, rep_at, replication_in_range}
use Rattle.fx_outputs.specs.Outputs.{output_spec, outputs_of, plan_behind}
use Rattle.fx_outputs.specs.Readings.{IsNamed, NamesEarlier}
use Rattle.fx_outputs.proofs.Names.{holds_of_all}
use Rattle.fx_outputs.proofs.Statements.{one_more_plan}
use Rattle.fx_outputs.proofs.Taken.{each_rep, few_rows, taken}

no_number : (given : Result ℕ Refusal) (number : ℕ) → (given >>= λ n. Ok (Times n)) ≡ Ok (Plan number) → ⊥
no_number (Ok n) number e = cc e
no_number (Err refusal) number e = cc e

its_place : (w : Written) (place : Option ℕ) (number : ℕ) → plan_at w place ≡ Ok (Plan number) → place ≡ Some number
its_place w None number e = cc e
its_place w (Some n) number e = let same : n ≡ number = cc e in cc

one_named : (earlier : List EarlierPlan) (option : List Written) (w : Option Written) (number : ℕ)
    → slice_get option 2 ≡ w → rep_at earlier w ≡ Ok (Plan number) → IsNamed earlier option number
one_named earlier option None number at e = cc e
one_named earlier option (Some w) number at e = by_symbol _ e
  where
    by_symbol : (b : Bool)
        → (if b then (replication_in_range w (number_of w) >>= λ n. Ok (Times n))
        else plan_at w (place_of w.text (plan_names earlier)))
        ≡ Ok (Plan number) → IsNamed earlier option number
    by_symbol true e = absurd (no_number _ number e)
    by_symbol false e =
        let found = position-Some _ _ number [] (its_place w _ number e) in
        record {
          name = w;
          written = at;
          before =
              rw (← (length-map earlier (λ (p : EarlierPlan). p.name))) found.0;
          same = found.1;
        }

pub all_earlier : (context : Context) (earlier : List EarlierPlan) (word name : Written) (s : List (List Written))
    (output : OutputSpec)
    → output_spec context earlier word name s ≡ Ok output → NamesEarlier earlier s output
all_earlier context earlier word name s output e =
    let reps =
    each_rep earlier s (output.pointrep, output.designrep) (taken context earlier word name s output e).reps in
    record {
      point =
          λ number is. one_named earlier _ _ number refl
          (reps.point ∙ ap (λ r. Ok r) is);
      design =
          λ number is. one_named earlier _ _ number refl
          (reps.design ∙ ap (λ r. Ok r) is);
    }

-- the plans so far
record AreFew (context : Context) (earlier before : List EarlierPlan) (done : List OutputSpec) : Type 0 where
  are : before ≡ built (plan_behind context) earlier done
  few : All HasFewRows before

pub all_few : (context : Context) (earlier : List EarlierPlan) (statements : List (List Written))
    (outputs : List OutputSpec) → All HasFewRows earlier → outputs_of context earlier statements ≡ Ok outputs
    → All HasFewRows (built (plan_behind context) earlier outputs)
all_few context earlier statements outputs h e =
    let last =
    holds_of_all context _ (AreFew context earlier)
    (λ before done a b c d options output accepted begun e kept. record {
      are = one_more_plan context earlier before done output kept.are;
      few = All-push HasFewRows before _ kept.few
          (few_rows context before a d (options_of (d ∷ options)) output e);
    })
    statements earlier [] outputs (each-all (λ x. Unit {0}) statements (λ x. tt)) (record { are = refl; few = h }) e in
    subst (All HasFewRows) last.1.are last.1.few
