use Rattle.std.proofs.Common.{◌≡◌, ℕ, List, Ok, Err}
use Rattle.fx_text.specs.declared.refusal.Refusal.{Refusal}
use Rattle.fx_text.specs.declared.refusal.ParseStop.{ParseStop}
use Rattle.fx_text.specs.declared.refusal.ParseStop.TheVariants as stop
use Rattle.fx_text.specs.Written.{Written}
use Rattle.fx_text.specs.Refusals.{IsRefused}
use Rattle.fx_effects.specs.Expressions.{Expression, expressions_of}
use Rattle.fx_effects.specs.Lists.{effects_of, few_effects}
use Rattle.fx_effects.specs.Models.{lists_at, check_some_effects, told_apart}
use Rattle.fx_text.proofs.Stops.{refused, stopped}
use Rattle.fx_effects.proofs.model.lists_at.Goals as goal

-- the meaning of two lists, part by part
module _ (q : ℕ) (factors : List (List ℕ)) (word : Written) (written : List Written) (other_word : Written)
    (other_written : List Written) (reason : ParseStop) where
  at_first : IsRefused (expressions_of factors written) reason
      → IsRefused (lists_at q factors word written other_word other_written) reason
  at_first h = stopped _ _ reason h

  at_second : (estimate : List Expression) → expressions_of factors written ≡ Ok estimate
      → IsRefused (expressions_of factors other_written) reason
      → IsRefused (lists_at q factors word written other_word other_written) reason
  at_second estimate one h = rw one (stopped _ _ reason h)

  module _ (estimate others : List Expression) (one : expressions_of factors written ≡ Ok estimate)
      (two : expressions_of factors other_written ≡ Ok others) where
    many : IsRefused (few_effects word (effects_of estimate)) reason
        → IsRefused (lists_at q factors word written other_word other_written) reason
    many h = rw (one, two) (stopped _ _ reason h)

    many_besides : (first : List ℕ) → few_effects word (effects_of estimate) ≡ Ok first
        → IsRefused (few_effects other_word (effects_of others)) reason
        → IsRefused (lists_at q factors word written other_word other_written) reason
    many_besides first few h = rw (one, two, few) (stopped _ _ reason h)

module _ (q : ℕ) (factors : List (List ℕ)) (word : Written) (written : List Written) (other_word : Written)
    (other_written : List Written) (estimate others : List Expression) (first second : List ℕ)
    (one : expressions_of factors written ≡ Ok estimate)
    (two : expressions_of factors other_written ≡ Ok others) (few : few_effects word (effects_of estimate) ≡ Ok first)
    (few_besides : few_effects other_word (effects_of others) ≡ Ok second) where
  none : (refusal : Refusal) → Err refusal ≡ check_some_effects word first
      → lists_at q factors word written other_word other_written ≡ Err refusal
  none refusal e = rw (one, two, few, few_besides, ← e)

  some : Ok tt ≡ check_some_effects word first
      → lists_at q factors word written other_word other_written ≡ told_apart q word first second
  some e = rw (one, two, few, few_besides, ← e)

pub returns-in_err-estimate-clause-refused : goal.returns-in_err-estimate-clause-refused
returns-in_err-estimate-clause-refused c =
    refused _ _ c.in_err-estimate.field-0.0 c.from_residual.ensures.1
    (at_first c.args.field c.args.factors.now c.args.word.now c.args.written.now c.args.other_word.now
    c.args.other_written.now _
    c.in_err-estimate.ensures.refused)

pub returns-in_err-others-clause-refused : goal.returns-in_err-others-clause-refused
returns-in_err-others-clause-refused c =
    refused _ _ c.in_err-others.field-0.0 c.from_residual-in_err-others.ensures.1
    (at_second c.args.field c.args.factors.now c.args.word.now c.args.written.now c.args.other_word.now
    c.args.other_written.now _
    c.in_ok-estimate.estimate c.in_ok-estimate.ensures.ok c.in_err-others.ensures.refused)

pub returns-in_err-estimate-2-clause-refused : goal.returns-in_err-estimate-2-clause-refused
returns-in_err-estimate-2-clause-refused c =
    refused _ _ c.in_err-estimate-2.field-0.0 c.from_residual-in_err-estimate-2.ensures.1
    (many c.args.field c.args.factors.now c.args.word.now c.args.written.now c.args.other_word.now
    c.args.other_written.now _
    c.in_ok-estimate.estimate c.in_ok-others.others c.in_ok-estimate.ensures.ok c.in_ok-others.ensures.ok
    (rw c.as_slice.ensures at c.in_err-estimate-2.ensures.refused))

pub returns-in_err-others-2-clause-refused : goal.returns-in_err-others-2-clause-refused
returns-in_err-others-2-clause-refused c =
    refused _ _ c.in_err-others-2.field-0.0 c.from_residual-in_err-others-2.ensures.1
    (many_besides c.args.field c.args.factors.now c.args.word.now c.args.written.now c.args.other_word.now
    c.args.other_written.now _
    c.in_ok-estimate.estimate c.in_ok-others.others c.in_ok-estimate.ensures.ok c.in_ok-others.ensures.ok _
    (rw c.as_slice.ensures at c.in_ok-estimate-2.ensures.ok)
    (rw c.as_slice-2.ensures at c.in_err-others-2.ensures.refused))

pub returns-in_err-check_some_effects-clause-refused : goal.returns-in_err-check_some_effects-clause-refused
returns-in_err-check_some_effects-clause-refused c =
    refused _ _ _ c.from_residual-in_err-check_some_effects.ensures.1
    (none c.args.field c.args.factors.now c.args.word.now c.args.written.now c.args.other_word.now
    c.args.other_written.now c.in_ok-estimate.estimate
    c.in_ok-others.others _ _ c.in_ok-estimate.ensures.ok c.in_ok-others.ensures.ok
    (rw c.as_slice.ensures at c.in_ok-estimate-2.ensures.ok) (rw c.as_slice-2.ensures at c.in_ok-others-2.ensures.ok)
    _
    c.in_err-check_some_effects.ensures)

pub returns-clause-ok : goal.returns-clause-ok
returns-clause-ok c =
    rw (some c.args.field c.args.factors.now c.args.word.now c.args.written.now c.args.other_word.now
    c.args.other_written.now
    c.in_ok-estimate.estimate c.in_ok-others.others _ _ c.in_ok-estimate.ensures.ok c.in_ok-others.ensures.ok
    (rw c.as_slice.ensures at c.in_ok-estimate-2.ensures.ok)
    (rw c.as_slice-2.ensures at c.in_ok-others-2.ensures.ok) c.in_ok-check_some_effects.ensures)
    c.told_apart.ensures.ok

pub returns-clause-apart : goal.returns-clause-apart
returns-clause-apart c = c.told_apart.ensures.apart

pub returns-clause-refused : goal.returns-clause-refused
returns-clause-refused c =
    rw (some c.args.field c.args.factors.now c.args.word.now c.args.written.now c.args.other_word.now
    c.args.other_written.now
    c.in_ok-estimate.estimate c.in_ok-others.others _ _ c.in_ok-estimate.ensures.ok c.in_ok-others.ensures.ok
    (rw c.as_slice.ensures at c.in_ok-estimate-2.ensures.ok)
    (rw c.as_slice-2.ensures at c.in_ok-others-2.ensures.ok) c.in_ok-check_some_effects.ensures)
    c.told_apart.ensures.refused
