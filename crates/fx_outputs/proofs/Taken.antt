-- What is known of an OUTPUT statement that is accepted.
use Rattle.std.proofs.Common.{◌≡◌, ℕ, ◌*◌, ◌≤◌, Bool, true, false, List, drop, Option, Some, None, Result, Ok, Err}
use Rattle.std.proofs.Common.{refl}
use Rattle.std.proofs.Common.{subst}
use Rattle.std.specs.Prelude.{is_some, slice_get, if◌then◌else◌}
use Rattle.std.proofs.lemmas.Bool.{leb-true}
use Rattle.fx_language.specs.declared.symbol.Symbol.TheVariants.{Pointrep, Designrep, Blockname}
use Rattle.fx_text.specs.declared.refusal.Refusal.{Refusal}
use Rattle.fx_text.specs.Names.{place_of}
use Rattle.fx_text.specs.Written.{Written}
use Rattle.fx_outputs.specs.declared.columns.Columns.{Columns}
use Rattle.fx_outputs.specs.declared.earlier.EarlierPlan.{EarlierPlan}
use Rattle.fx_outputs.specs.declared.output.OutputSpec.{OutputSpec}
use Rattle.fx_outputs.specs.declared.replication.Rep.{Rep}
use Rattle.fx_outputs.specs.Contexts.{Context}
use Rattle.fx_outputs.specs.Options.{option_of}
use Rattle.fx_outputs.specs.Earlier.{plan_names, rep_rows}
use Rattle.fx_outputs.specs.Replications.{check_number, check_rows, rep_at, reps_of}
use Rattle.fx_outputs.specs.Shuffles.{shuffle_of}
use Rattle.fx_outputs.specs.BlockColumns.{block_values, check_blockname, check_column, name_or_empty}
use Rattle.fx_outputs.specs.Columns.{columns_of}
use Rattle.fx_outputs.specs.FileColumns.{check_columns}
use Rattle.fx_outputs.specs.Outputs.{check_new_name, output_spec}
use Rattle.fx_outputs.proofs.Accepted.{kept_if, through}

-- what POINTREP and DESIGNREP say, one by one
pub record AreReps (earlier : List EarlierPlan) (s : List (List Written)) (reps : Rep × Rep) : Type 0 where
  pub point : rep_at earlier (slice_get (option_of Pointrep s) 2) ≡ Ok reps.0
  pub design : rep_at earlier (slice_get (option_of Designrep s) 2) ≡ Ok reps.1

pub each_rep : (earlier : List EarlierPlan) (s : List (List Written)) (reps : Rep × Rep) → reps_of earlier s ≡ Ok reps
    → AreReps earlier s reps
each_rep earlier s reps e =
    let point = slice_get (option_of Pointrep s) 2 in
    let design = slice_get (option_of Designrep s) 2 in
    let Goal : Type 0 = AreReps earlier s reps in
    through (check_number point) _ reps Goal e (λ u one e.
    through (check_number design) _ reps Goal e (λ v two e.
    through (rep_at earlier point) _ reps Goal e (λ pointrep three e.
    through (rep_at earlier design) _ reps Goal e (λ designrep four e.
    let same : (pointrep, designrep) ≡ reps = cc e in
    subst (AreReps earlier s) same (record { point = three; design = four })))))

pub record IsTaken (context : Context) (earlier : List EarlierPlan) (word name : Written) (s : List (List Written))
    (output : OutputSpec) : Type 0 where
  pub columns : Columns
  pub fresh : check_new_name (plan_names earlier) name ≡ Ok tt
  pub reps : reps_of earlier s ≡ Ok (output.pointrep, output.designrep)
  pub rows : check_rows context.runs (rep_rows earlier output.pointrep) (rep_rows earlier output.designrep) name ≡ Ok tt
  pub named : check_blockname context.blocks (slice_get (option_of Blockname s) 0) ≡ Ok tt
  pub free : check_column context word (slice_get (option_of Blockname s) 2) ≡ Ok tt
  pub values :
      block_values context.blocks (drop 3 (option_of Blockname s))
      ≡ Ok output.block_values
  pub read : columns_of context s ≡ Ok columns
  pub differ :
      check_columns context earlier (output.pointrep, output.designrep) output.block_name output.derived s ≡ Ok tt
  pub name_is : output.name ≡ name.text
  pub recodes_are : output.recodes ≡ columns.recodes
  pub derived_are : output.derived ≡ columns.derived
  pub block_name_is : output.block_name ≡ name_or_empty (slice_get (option_of Blockname s) 2)

pub taken : (context : Context) (earlier : List EarlierPlan) (word name : Written) (s : List (List Written))
    (output : OutputSpec)
    → output_spec context earlier word name s ≡ Ok output → IsTaken context earlier word name s output
taken context earlier word name s output e =
    let blockname = option_of Blockname s in
    let block_name : List ℕ = name_or_empty (slice_get blockname 2) in
    let Goal : Type 0 = IsTaken context earlier word name s output in
    through (check_new_name (plan_names earlier) name) _ output Goal e (λ u fresh e.
    through (reps_of earlier s) _ output Goal e (λ reps repeated e.
    through (check_rows context.runs (rep_rows earlier reps.0) (rep_rows earlier reps.1) name) _ output Goal e
    (λ v few e.
    through (shuffle_of s) _ output Goal e (λ shuffle asked e.
    through (check_blockname context.blocks (slice_get blockname 0)) _ output Goal e (λ w named e.
    through (check_column context word (slice_get blockname 2)) _ output Goal e (λ x free e.
    through (block_values context.blocks (drop 3 blockname)) _ output Goal e (λ values given e.
    through (columns_of context s) _ output Goal e (λ columns read e.
    through (check_columns context earlier reps block_name columns.derived s) _ output Goal e (λ y differ e.
    let made : OutputSpec = record {
      name = name.text;
      pointrep = reps.0;
      designrep = reps.1;
      shuffle = shuffle;
      recodes = columns.recodes;
      derived = columns.derived;
      block_name = block_name;
      block_values = values;
    } in
    let same : made ≡ output = cc e in
    let sure : IsTaken context earlier word name s made = record {
      columns = columns;
      fresh = fresh;
      reps = repeated;
      rows = few;
      named = named;
      free = free;
      values = given;
      read = read;
      differ = differ;
      name_is = refl;
      recodes_are = refl;
      derived_are = refl;
      block_name_is = refl;
    } in
    subst (IsTaken context earlier word name s) same sure)))))))))

pub not_found : (o : Option ℕ) → is_some o ≡ false → o ≡ None
not_found None e = refl
not_found (Some i) e = absurd (let f = e in cc)

pub unless : (b : Bool) (refusal : Refusal)
    → ◌≡◌ {A = Result (Unit {0}) Refusal} (if b then Err refusal else Ok tt) (Ok tt)
    → b ≡ false
unless true refusal e = cc e
unless false refusal e = refl

module _ (context : Context) (earlier : List EarlierPlan) (word name : Written) (s : List (List Written))
    (output : OutputSpec) (e : output_spec context earlier word name s ≡ Ok output) where
  pub new_name : place_of output.name (plan_names earlier) ≡ None
  new_name =
      let t = taken context earlier word name s output e in
      rw t.name_is (not_found _
      (unless _ _ t.fresh))

  pub few_rows : context.runs * rep_rows earlier output.pointrep * rep_rows earlier output.designrep ≤ 200000
  few_rows =
      let rows = context.runs * rep_rows earlier output.pointrep * rep_rows earlier output.designrep in
      leb-true rows 200000 (kept_if _ tt tt _ (taken context earlier word name s output e).rows).0
