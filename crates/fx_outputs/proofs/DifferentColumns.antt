-- No two columns of a file have the same name.
use Rattle.std.proofs.Common.{◌≡◌, ℕ, zero, suc, true, false, List, [], ◌∷◌, ◌++◌, map, Option, Some, None, Ok, refl}
use Rattle.std.specs.Prelude.{All, ◌||◌, is_some, slice_get, slice_index_or}
use Rattle.std.specs.List.{AllByRecursion, IsDistinct}
use Rattle.std.proofs.lemmas.Bool.{or_parts}
use Rattle.std.proofs.lemmas.List.Elements.{All-push, recursion_from_All}
use Rattle.fx_base.proofs.Lists.{each-append, each-append_parts, each-weaker}
use Rattle.fx_language.specs.declared.symbol.Symbol.TheVariants.{Designrep, Output, Pointrep}
use Rattle.fx_language.specs.Grammar as grammar
use Rattle.fx_language.specs.Shapes.{Matches}
use Rattle.fx_language.specs.Symbols.{is}
use Rattle.fx_text.specs.Names.{is_same_name, place_of}
use Rattle.fx_text.specs.Refusals.{refusal_at}
use Rattle.fx_text.specs.Sentences.{IsAccepted, symbols_in}
use Rattle.fx_text.specs.Written.{Written}
use Rattle.fx_text.proofs.ByLexemes.{reads}
use Rattle.fx_text.proofs.Distinct.{IsNew, joined_differ, none_differ, not_found}
use Rattle.fx_outputs.specs.declared.derived.Derived.{Derived}
use Rattle.fx_outputs.specs.declared.earlier.EarlierPlan.{EarlierPlan}
use Rattle.fx_outputs.specs.declared.output.OutputSpec.{OutputSpec}
use Rattle.fx_outputs.specs.declared.replication.Rep.{Rep}
use Rattle.fx_outputs.specs.declared.replication.Rep.TheVariants.{Plan, Times}
use Rattle.fx_outputs.specs.Columns.{check_names, derived_names}
use Rattle.fx_outputs.specs.Contexts.{Context}
use Rattle.fx_outputs.specs.Earlier.{file_columns, plan_columns, rep_columns}
use Rattle.fx_outputs.specs.FileColumns.{check_plan, meet}
use Rattle.fx_outputs.specs.Histories.{built}
use Rattle.fx_outputs.specs.Options.{option_of, options_of}
use Rattle.fx_outputs.specs.Outputs.{output_spec, outputs_of, plan_behind}
use Rattle.fx_outputs.specs.OwnColumns.{other_columns, own_columns}
use Rattle.fx_outputs.specs.Replications.{rep_at}
use Rattle.fx_outputs.proofs.Accepted.{kept_unless, through}
use Rattle.fx_outputs.proofs.DerivedNames.{HasDerivedName, has_derived_name, names_pass, names_written}
use Rattle.fx_outputs.proofs.FreeNames.{others_differ}
use Rattle.fx_outputs.proofs.Histories.{built-append}
use Rattle.fx_outputs.proofs.Names.{holds_of_all, its_names}
use Rattle.fx_outputs.proofs.OptionCuts.{options_law}
use Rattle.fx_outputs.proofs.Statements.{one_more_plan}
use Rattle.fx_outputs.proofs.Taken.{each_rep, taken}

met_by_none : (names others : List (List ℕ)) → meet names others ≡ false → AllByRecursion (IsNew others) names
met_by_none [] others e = tt
met_by_none (name ∷ names) others e =
    let parts = or_parts (is_some (place_of name others)) (meet names others) e in
    (not_found others name parts.0, met_by_none names others parts.1)

-- the columns that a replication adds are none of the file's own and none of the other replication
passed : (earlier : List EarlierPlan) (rep : Rep) (own others : List (List ℕ)) (w : Option Written)
    → rep_at earlier w ≡ Ok rep
    → check_plan w (rep_columns (file_columns earlier) rep) own others ≡ Ok tt
    → AllByRecursion (IsNew own) (rep_columns (file_columns earlier) rep)
    × AllByRecursion (IsNew others) (rep_columns (file_columns earlier) rep)
passed earlier rep own others None is e =
    let same : Times 1 ≡ rep = cc is in
    let none : rep_columns (file_columns earlier) rep ≡ [] = rw (← same) refl in
    rw none (tt, tt)
passed earlier rep own others (Some w) is e =
    let columns = rep_columns (file_columns earlier) rep in
    let free = kept_unless (meet columns own || meet columns others) tt tt (refusal_at 34 w) e in
    let parts = or_parts (meet columns own) (meet columns others) free.0 in
    (met_by_none columns own parts.0, met_by_none columns others parts.1)

file_at : (known : List (List (List ℕ))) (number : ℕ) → AllByRecursion (IsDistinct is_same_name) known
    → IsDistinct is_same_name (slice_index_or known number [])
file_at [] number each = none_differ
file_at (columns ∷ known) zero each = each.0
file_at (columns ∷ known) (suc number) each = file_at known number each.1

added_differ : (known : List (List (List ℕ))) (rep : Rep) → AllByRecursion (IsDistinct is_same_name) known
    → IsDistinct is_same_name (rep_columns known rep)
added_differ known (Times n) each = none_differ
added_differ known (Plan number) each = file_at known number each

module _ (context : Context) (factors : IsDistinct is_same_name context.factors) where
  one_differs : (earlier : List EarlierPlan) (a b c d : Written) (options : List Written) (output : OutputSpec)
      → All (IsDistinct is_same_name) (file_columns earlier)
      → IsAccepted (a ∷ b ∷ c ∷ d ∷ options) → is Output a.symbol ≡ true
      → output_spec context earlier a d (options_of (d ∷ options)) ≡ Ok output
      → IsDistinct is_same_name (plan_columns (file_columns earlier) (plan_behind context earlier output))
  one_differs earlier a b c d options output each accepted begun e =
      let s = options_of (d ∷ options) in
      let t = taken context earlier a d s output e in
      let reps = each_rep earlier s (output.pointrep, output.designrep) t.reps in
      let r = options_law (a ∷ b ∷ c ∷ d ∷ options) (accepted.by_its_word.output begun) in
      let same : r.name ∷ r.options ≡ d ∷ options = cc r.statement in
      let named : AllByRecursion HasDerivedName s =
      each-weaker (λ o. Matches grammar.option (symbols_in o)) HasDerivedName s
      (λ o m. has_derived_name o (reads grammar.option o (symbols_in o) refl m)) (rw same at r.each) in
      let known = recursion_from_All (IsDistinct is_same_name) (file_columns earlier) each in
      let point : List (List ℕ) = rep_columns (file_columns earlier) output.pointrep in
      let design : List (List ℕ) = rep_columns (file_columns earlier) output.designrep in
      let other : List (List ℕ) = other_columns context output.block_name output.derived in
      let own : List (List ℕ) = own_columns context output.block_name output.derived in
      let Goal : Type 0 = IsDistinct is_same_name (own ++ (point ++ design)) in
      through (check_names (other ++ point ++ design) s) _ tt Goal t.differ (λ u one more.
      through (check_plan (slice_get (option_of Pointrep s) 2) point own design) _ tt Goal more (λ v two three.
      let written : map (λ (x : Derived). x.name) output.derived ≡ derived_names s =
      rw t.derived_are (names_written context (record { recodes = []; derived = [] }) t.columns s named t.read) in
      let derived = names_pass (other ++ point ++ design) s one in
      let other_names = λ (name : List ℕ) (new : IsNew (other ++ point ++ design) name).
      (each-append_parts (λ x. is_same_name name x ≡ false) other point
      (each-append_parts (λ x. is_same_name name x ≡ false) (other ++ point) design new).0).0
      in
      let own_differ : IsDistinct is_same_name own =
      rw written
      (joined_differ other (derived_names s)
      (others_differ output.derived context output.block_name factors
      (its_names context earlier a b c d options output accepted begun e).column)
      derived.differ
      (each-weaker (IsNew (other ++ point ++ design)) (IsNew other) (derived_names s) other_names derived.others))
      in
      let of_point = passed earlier output.pointrep own design (slice_get (option_of Pointrep s) 2) reps.point two in
      let of_design =
      passed earlier output.designrep own point (slice_get (option_of Designrep s) 2) reps.design three in
      joined_differ own (point ++ design) own_differ
      (joined_differ point design (added_differ (file_columns earlier) output.pointrep known)
      (added_differ (file_columns earlier) output.designrep known) of_design.1)
      (each-append (IsNew own) point design of_point.0 of_design.0)))

  -- the plans so far
  record AreFiles (earlier before : List EarlierPlan) (done : List OutputSpec) : Type 0 where
    are : before ≡ built (plan_behind context) earlier done
    differ : All (IsDistinct is_same_name) (file_columns before)

  pub all_differ : (earlier : List EarlierPlan) (statements : List (List Written)) (outputs : List OutputSpec)
      → All (IsDistinct is_same_name) (file_columns earlier) → AllByRecursion IsAccepted statements
      → outputs_of context earlier statements ≡ Ok outputs
      → All (IsDistinct is_same_name) (file_columns (built (plan_behind context) earlier outputs))
  all_differ earlier statements outputs h each e =
      let last =
      holds_of_all context IsAccepted (AreFiles earlier)
      (λ before done a b c d options output accepted begun e kept. record {
        are = one_more_plan context earlier before done output kept.are;
        differ =
            rw (built-append plan_columns [] before (plan_behind context before output ∷ []))
            (All-push (IsDistinct is_same_name) (file_columns before) _ kept.differ
            (one_differs before a b c d options output kept.differ accepted begun e));
      })
      statements earlier [] outputs each (record { are = refl; differ = h }) e in
      rw last.1.are at last.1.differ
