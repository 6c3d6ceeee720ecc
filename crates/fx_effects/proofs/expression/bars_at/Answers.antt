use Rattle.std.proofs.Common.{◌≡◌, ◌∙◌, ℕ, List, [], ◌∷◌, Ok, Err, take, drop, sym, ap}
use Rattle.std.specs.Prelude.{slice_get}
use Rattle.std.proofs.lemmas.List.{take_rest}
use Rattle.fx_text.specs.declared.refusal.Refusal.{Refusal}
use Rattle.fx_text.specs.declared.refusal.ParseStop.{ParseStop}
use Rattle.fx_text.specs.declared.refusal.ParseStop.TheVariants as stop
use Rattle.fx_text.specs.Written.{Written}
use Rattle.fx_text.specs.Refusals.{IsRefused}
use Rattle.fx_effects.specs.Expressions.{Reading, read, all_read, bars_at, expression, stars_len, stars_of, upto_of}
use Rattle.fx_text.proofs.Stops.{refused, stopped}
use Rattle.fx_effects.proofs.expression.bars_at.Goals as goal

-- the meaning of stars that are joined by bars, part by part; `n` lexemes precede `@`
module _ (factors : List (List ℕ)) (first : Written) (rest : List Written) (n : ℕ) (len : n ≡ stars_len rest)
    (start : Reading) (none : start ≡ record { stars = []; star = 0 }) where
  at_first : (reason : ParseStop) → IsRefused (read factors start first) reason
      → IsRefused (bars_at factors first rest) reason
  at_first reason h =
      let whole : IsRefused (all_read factors start (first ∷ take n rest)) reason =
      stopped _ _ reason h in
      stopped _ _ reason
      (rw (none, len) at whole)

  module _ (r : Reading) (one : read factors start first ≡ Ok r) where
    at_rest : (reason : ParseStop) → IsRefused (all_read factors r (take n rest)) reason
        → IsRefused (bars_at factors first rest) reason
    at_rest reason h =
        let whole : IsRefused (all_read factors start (first ∷ take n rest)) reason = rw one h in
        stopped _ _ reason
        (rw (none, len) at whole)

    module _ (s : Reading) (others : all_read factors r (take n rest) ≡ Ok s) where
      behind : all_read factors (record { stars = []; star = 0 }) (first ∷ take (stars_len rest) rest) ≡ Ok s
      behind =
          let whole : all_read factors start (first ∷ take n rest) ≡ Ok s = rw one others in
          rw (none, len) at whole

      at_end : (refusal : Refusal) → Err refusal ≡ upto_of (stars_of s) (slice_get (drop n rest) 1)
          → bars_at factors first rest ≡ Err refusal
      at_end refusal e = rw (behind, ← len, ← e)

      is_read : (upto : ℕ) → Ok upto ≡ upto_of (stars_of s) (slice_get (drop n rest) 1)
          → bars_at factors first rest ≡ Ok (expression (stars_of s) upto)
      is_read upto e = rw (behind, ← len, ← e)

pub returns-in_err-read-clause-refused : goal.returns-in_err-read-clause-refused
returns-in_err-read-clause-refused c =
    refused _ _ c.in_err-read.field-0.0 c.from_residual.ensures.1
    (at_first c.args.factors.now c.args.first.now c.args.rest.now c.stars_len-len.result c.stars_len-len.ensures.value
    c.new-stars.result c.new-stars.ensures _ c.in_err-read.ensures.refused)

pub returns-in_err-read_all-clause-refused : goal.returns-in_err-read_all-clause-refused
returns-in_err-read_all-clause-refused c =
    refused _ _ c.in_err-read_all.field-0.0 c.from_residual-in_err-read_all.ensures.1
    (at_rest c.args.factors.now c.args.first.now c.args.rest.now c.stars_len-len.result c.stars_len-len.ensures.value
    c.new-stars.result c.new-stars.ensures _ c.in_ok-read.ensures.ok _ c.in_err-read_all.ensures.refused)

pub returns-in_err-stars-clause-refused : goal.returns-in_err-stars-clause-refused
returns-in_err-stars-clause-refused c = refused _ _ stop.NoMemory c.from_residual-in_err-stars.ensures.1 tt

pub returns-in_err-upto-clause-refused : goal.returns-in_err-upto-clause-refused
returns-in_err-upto-clause-refused c =
    refused _ _ _ c.from_residual-in_err-upto.ensures.1
    (at_end c.args.factors.now c.args.first.now c.args.rest.now c.stars_len-len.result c.stars_len-len.ensures.value
    c.new-stars.result c.new-stars.ensures _ c.in_ok-read.ensures.ok _ c.in_ok-read_all.ensures.ok _
    (rw (c.in_ok-stars.ensures.stars, take_rest c.args.rest.now c.stars_len-len.result) at c.in_err-upto.ensures))

pub returns-clause-ok : goal.returns-clause-ok
returns-clause-ok c =
    is_read c.args.factors.now c.args.first.now c.args.rest.now c.stars_len-len.result c.stars_len-len.ensures.value
    c.new-stars.result c.new-stars.ensures _ c.in_ok-read.ensures.ok _ c.in_ok-read_all.ensures.ok _
    (rw (c.in_ok-stars.ensures.stars, take_rest c.args.rest.now c.stars_len-len.result) at c.in_ok-upto.ensures)
    ∙ ap (λ stars. Ok (expression stars c.in_ok-upto.upto)) (sym c.in_ok-stars.ensures.stars)

pub returns-clause-numbers : goal.returns-clause-numbers
returns-clause-numbers c = c.in_ok-stars.ensures.numbers
