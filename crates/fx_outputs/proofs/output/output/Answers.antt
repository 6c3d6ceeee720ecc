use Rattle.std.proofs.Common.{◌≡◌, ℕ, List, Result, Ok, Err, drop, ap}
use Rattle.std.specs.Prelude.{slice_get}
use Rattle.fx_language.specs.declared.symbol.Symbol.TheVariants.{Blockname}
use Rattle.fx_text.specs.declared.refusal.Refusal.{Refusal}
use Rattle.fx_text.specs.declared.refusal.ParseStop.{ParseStop}
use Rattle.fx_text.specs.declared.refusal.ParseStop.TheVariants as stop
use Rattle.fx_text.specs.Written.{Written}
use Rattle.fx_text.specs.Refusals.{IsRefused}
use Rattle.fx_text.proofs.Stops.{refused, stopped}
use Rattle.fx_outputs.specs.declared.context.BlockCount.{BlockCount}
use Rattle.fx_outputs.specs.declared.earlier.EarlierPlan.{EarlierPlan}
use Rattle.fx_outputs.specs.declared.output.OutputSpec.{OutputSpec}
use Rattle.fx_outputs.specs.declared.columns.Columns.{Columns}
use Rattle.fx_outputs.specs.declared.replication.Rep.{Rep}
use Rattle.fx_outputs.specs.declared.shuffle.Shuffle.{Shuffle}
use Rattle.fx_outputs.specs.BlockColumns.{block_values, check_blockname, check_column, name_or_empty}
use Rattle.fx_outputs.specs.Contexts.{Context}
use Rattle.fx_outputs.specs.Options.{option_of}
use Rattle.fx_outputs.specs.Earlier.{plan_names, rep_rows}
use Rattle.fx_outputs.specs.Outputs.{check_new_name, output_spec}
use Rattle.fx_outputs.specs.Columns.{columns_of}
use Rattle.fx_outputs.specs.FileColumns.{check_columns}
use Rattle.fx_outputs.specs.Replications.{check_rows, reps_of}
use Rattle.fx_outputs.specs.Shuffles.{shuffle_of}
use Rattle.fx_outputs.proofs.output.output.Goals as goal

-- the meaning of a statement, part by part
module _ (context : Context) (earlier : List EarlierPlan) (word name : Written) (s : List (List Written)) where
  abbrev meaning : Result OutputSpec Refusal
  meaning = output_spec context earlier word name s

  module _ (fresh : check_new_name (plan_names earlier) name ≡ Ok tt) where
    at_reps : (reason : ParseStop) → IsRefused (reps_of earlier s) reason → IsRefused meaning reason
    at_reps reason h = rw fresh (stopped _ _ reason h)

    module _ (reps : Rep × Rep) (each all runs : ℕ) (repeated : reps_of earlier s ≡ Ok reps)
        (inner : each ≡ rep_rows earlier reps.0) (outer : all ≡ rep_rows earlier reps.1)
        (most : runs ≡ context.runs) where
      at_rows : (refusal : Refusal) → Err refusal ≡ check_rows runs each all name → meaning ≡ Err refusal
      at_rows refusal e = rw (fresh, repeated, ← rw (inner, outer, most) at e)

      module _ (few : Ok tt ≡ check_rows runs each all name) where
        at_shuffle : (refusal : Refusal) → Err refusal ≡ shuffle_of s → meaning ≡ Err refusal
        at_shuffle refusal e = rw (fresh, repeated, ← rw (inner, outer, most) at few, ← e)

        module _ (shuffle : Shuffle) (column : List Written) (blocks : BlockCount) (asked : Ok shuffle ≡ shuffle_of s)
            (behind : column ≡ option_of Blockname s) (own : blocks ≡ context.blocks) where
          at_blockname : (refusal : Refusal) → Err refusal ≡ check_blockname blocks (slice_get column 0)
              → meaning ≡ Err refusal
          at_blockname refusal e =
              rw (← behind, fresh, repeated, ← rw (inner, outer, most) at few, ← asked, ← rw own at e)

          module _ (named : Ok tt ≡ check_blockname blocks (slice_get column 0)) where
            at_column : (refusal : Refusal) → Err refusal ≡ check_column context word (slice_get column 2)
                → meaning ≡ Err refusal
            at_column refusal e =
                rw (
                  ← behind,
                  fresh,
                  repeated,
                  ← rw (inner, outer, most) at few,
                  ← asked,
                  ← rw own at named,
                  ← e,
                )

            module _ (free : Ok tt ≡ check_column context word (slice_get column 2)) where
              at_values : (reason : ParseStop)
                  → IsRefused (block_values blocks (drop 3 column)) reason
                  → IsRefused meaning reason
              at_values reason h =
                  rw (
                    ← behind,
                    fresh,
                    repeated,
                    ← rw (inner, outer, most) at few,
                    ← asked,
                    ← rw own at named,
                    ← free,
                  )
                  (stopped _ _ reason (rw own at h))

              module _ (values : List (List ℕ))
                  (given : block_values blocks (drop 3 column) ≡ Ok values) where
                at_columns : (reason : ParseStop) → IsRefused (columns_of context s) reason → IsRefused meaning reason
                at_columns reason h =
                    rw (
                      ← behind,
                      fresh,
                      repeated,
                      ← rw (inner, outer, most) at few,
                      ← asked,
                      ← rw own at named,
                      ← free,
                      rw own at given,
                    )
                    (stopped _ _ reason h)

                module _ (columns : Columns) (read : columns_of context s ≡ Ok columns) where
                  abbrev test : Result (Unit {0}) Refusal
                  test =
                      check_columns context earlier reps (name_or_empty (slice_get column 2)) columns.derived s

                  at_names : (reason : ParseStop) → IsRefused test reason → IsRefused meaning reason
                  at_names reason h =
                      rw (
                        ← behind,
                        fresh,
                        repeated,
                        ← rw (inner, outer, most) at few,
                        ← asked,
                        ← rw own at named,
                        ← free,
                        rw own at given,
                        read,
                      )
                      (stopped test _ reason h)

                  is_read : test ≡ Ok tt
                      → meaning ≡ Ok
                      (record {
                        name = name.text;
                        pointrep = reps.0;
                        designrep = reps.1;
                        shuffle = shuffle;
                        recodes = columns.recodes;
                        derived = columns.derived;
                        block_name = name_or_empty (slice_get column 2);
                        block_values = values;
                      })
                  is_read differ =
                      rw (
                        ← behind,
                        fresh,
                        repeated,
                        ← rw (inner, outer, most) at few,
                        ← asked,
                        ← rw own at named,
                        ← free,
                        rw own at given,
                        read,
                        differ,
                      )

pub returns-in_err-check_new_name-clause-refused : goal.returns-in_err-check_new_name-clause-refused
returns-in_err-check_new_name-clause-refused c =
    refused _ _ c.in_err-check_new_name.field-0.0 c.from_residual.ensures.1
    (stopped _ _ _
    c.in_err-check_new_name.ensures.refused)

pub returns-in_err-reps-clause-refused : goal.returns-in_err-reps-clause-refused
returns-in_err-reps-clause-refused c =
    refused _ _ c.in_err-reps.field-0.0 c.from_residual-in_err-reps.ensures.1
    (at_reps c.args.context.now c.args.earlier.now c.args.word.now c.args.name.now c.args.options.now
    c.in_ok-check_new_name.ensures.ok _ c.in_err-reps.ensures.refused)

pub returns-in_err-check_rows-clause-refused : goal.returns-in_err-check_rows-clause-refused
returns-in_err-check_rows-clause-refused c =
    refused _ _ _ c.from_residual-in_err-check_rows.ensures.1
    (at_rows c.args.context.now c.args.earlier.now c.args.word.now c.args.name.now c.args.options.now
    c.in_ok-check_new_name.ensures.ok c.in_ok-reps.reps _ _ _ c.in_ok-reps.ensures.ok c.rep_rows-each.ensures
    c.rep_rows-all.ensures (ap (λ x. x.runs) c.context.view_is) _ c.in_err-check_rows.ensures)

pub returns-in_err-shuffle-clause-refused : goal.returns-in_err-shuffle-clause-refused
returns-in_err-shuffle-clause-refused c =
    refused _ _ _ c.from_residual-in_err-shuffle.ensures.1
    (at_shuffle c.args.context.now c.args.earlier.now c.args.word.now c.args.name.now c.args.options.now
    c.in_ok-check_new_name.ensures.ok c.in_ok-reps.reps _ _ _ c.in_ok-reps.ensures.ok c.rep_rows-each.ensures
    c.rep_rows-all.ensures (ap (λ x. x.runs) c.context.view_is) c.in_ok-check_rows.ensures _
    c.in_err-shuffle.ensures)

pub returns-in_err-check_blockname-clause-refused : goal.returns-in_err-check_blockname-clause-refused
returns-in_err-check_blockname-clause-refused c =
    refused _ _ _ c.from_residual-in_err-check_blockname.ensures.1
    (at_blockname c.args.context.now c.args.earlier.now c.args.word.now c.args.name.now c.args.options.now
    c.in_ok-check_new_name.ensures.ok c.in_ok-reps.reps _ _ _ c.in_ok-reps.ensures.ok c.rep_rows-each.ensures
    c.rep_rows-all.ensures (ap (λ x. x.runs) c.context.view_is) c.in_ok-check_rows.ensures _ _ _
    c.in_ok-shuffle.ensures
    c.option_of-blockname.ensures (ap (λ x. x.blocks) c.context.view_is) _ c.in_err-check_blockname.ensures)

pub returns-in_err-check_column-clause-refused : goal.returns-in_err-check_column-clause-refused
returns-in_err-check_column-clause-refused c =
    refused _ _ _ c.from_residual-in_err-check_column.ensures.1
    (at_column c.args.context.now c.args.earlier.now c.args.word.now c.args.name.now c.args.options.now
    c.in_ok-check_new_name.ensures.ok c.in_ok-reps.reps _ _ _ c.in_ok-reps.ensures.ok c.rep_rows-each.ensures
    c.rep_rows-all.ensures (ap (λ x. x.runs) c.context.view_is) c.in_ok-check_rows.ensures _ _ _
    c.in_ok-shuffle.ensures
    c.option_of-blockname.ensures (ap (λ x. x.blocks) c.context.view_is)
    c.in_ok-check_blockname.ensures _ c.in_err-check_column.ensures)

pub returns-in_err-block_values-clause-refused : goal.returns-in_err-block_values-clause-refused
returns-in_err-block_values-clause-refused c =
    refused _ _ c.in_err-block_values.field-0.0 c.from_residual-in_err-block_values.ensures.1
    (at_values c.args.context.now c.args.earlier.now c.args.word.now c.args.name.now c.args.options.now
    c.in_ok-check_new_name.ensures.ok c.in_ok-reps.reps _ _ _ c.in_ok-reps.ensures.ok c.rep_rows-each.ensures
    c.rep_rows-all.ensures (ap (λ x. x.runs) c.context.view_is) c.in_ok-check_rows.ensures _ _ _
    c.in_ok-shuffle.ensures
    c.option_of-blockname.ensures (ap (λ x. x.blocks) c.context.view_is)
    c.in_ok-check_blockname.ensures c.in_ok-check_column.ensures _
    c.in_err-block_values.ensures.refused)

pub returns-in_err-columns-clause-refused : goal.returns-in_err-columns-clause-refused
returns-in_err-columns-clause-refused c =
    refused _ _ c.in_err-columns.field-0.0 c.from_residual-in_err-columns.ensures.1
    (at_columns c.args.context.now c.args.earlier.now c.args.word.now c.args.name.now c.args.options.now
    c.in_ok-check_new_name.ensures.ok c.in_ok-reps.reps _ _ _ c.in_ok-reps.ensures.ok c.rep_rows-each.ensures
    c.rep_rows-all.ensures (ap (λ x. x.runs) c.context.view_is) c.in_ok-check_rows.ensures _ _ _
    c.in_ok-shuffle.ensures
    c.option_of-blockname.ensures (ap (λ x. x.blocks) c.context.view_is)
    c.in_ok-check_blockname.ensures c.in_ok-check_column.ensures _ c.in_ok-block_values.ensures.ok _
    c.in_err-columns.ensures.refused)

pub returns-in_err-check_columns-clause-refused : goal.returns-in_err-check_columns-clause-refused
returns-in_err-check_columns-clause-refused c =
    refused _ _ c.in_err-check_columns.field-0.0 c.from_residual-in_err-check_columns.ensures.1
    (at_names c.args.context.now c.args.earlier.now c.args.word.now c.args.name.now c.args.options.now
    c.in_ok-check_new_name.ensures.ok c.in_ok-reps.reps _ _ _ c.in_ok-reps.ensures.ok c.rep_rows-each.ensures
    c.rep_rows-all.ensures (ap (λ x. x.runs) c.context.view_is) c.in_ok-check_rows.ensures _ _ _
    c.in_ok-shuffle.ensures
    c.option_of-blockname.ensures (ap (λ x. x.blocks) c.context.view_is)
    c.in_ok-check_blockname.ensures c.in_ok-check_column.ensures _ c.in_ok-block_values.ensures.ok
    c.in_ok-columns.columns c.in_ok-columns.ensures.ok _
    (rw (c.as_slice-derived.ensures, c.as_slice.ensures, c.in_ok-block_name.ensures) at
    c.in_err-check_columns.ensures.refused))

pub returns-in_err-from_slice-clause-refused : goal.returns-in_err-from_slice-clause-refused
returns-in_err-from_slice-clause-refused c = refused _ _ stop.NoMemory c.from_residual-in_err-from_slice.ensures.1 tt

pub returns-in_err-block_name-clause-refused : goal.returns-in_err-block_name-clause-refused
returns-in_err-block_name-clause-refused c = refused _ _ stop.NoMemory c.from_residual-in_err-block_name.ensures.1 tt

pub returns-clause-ok : goal.returns-clause-ok
returns-clause-ok c =
    rw (
      c.in_ok-from_slice.ensures,
      c.text.ensures,
      c.into_parts-recodes.ensures.recodes,
      c.into_parts-recodes.ensures.derived,
      c.in_ok-block_name.ensures,
    )
    (is_read c.args.context.now c.args.earlier.now c.args.word.now c.args.name.now c.args.options.now
    c.in_ok-check_new_name.ensures.ok c.in_ok-reps.reps _ _ _ c.in_ok-reps.ensures.ok c.rep_rows-each.ensures
    c.rep_rows-all.ensures (ap (λ x. x.runs) c.context.view_is) c.in_ok-check_rows.ensures _ _ _
    c.in_ok-shuffle.ensures
    c.option_of-blockname.ensures (ap (λ x. x.blocks) c.context.view_is)
    c.in_ok-check_blockname.ensures c.in_ok-check_column.ensures _ c.in_ok-block_values.ensures.ok
    c.in_ok-columns.columns c.in_ok-columns.ensures.ok
    (rw (c.as_slice-derived.ensures, c.as_slice.ensures, c.in_ok-block_name.ensures) at
    c.in_ok-check_columns.ensures.ok))
