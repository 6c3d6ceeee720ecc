-- What comes of adding the names of a range.
use Rattle.std.proofs.Common.{◌≡◌, ℕ, ◌+◌, ◌-◌, ◌<◌, ◌≤◌, Bool, true, false, List, ◌++◌, length, Some, Result, Ok, Err}
use Rattle.std.proofs.Common.{◌∙◌, arith}
use Rattle.std.specs.Prelude.{nat_lt, if◌then◌else◌, IfErr, OnOk}
use Rattle.std.proofs.lemmas.Bool.{lt-ltb, le-ltb}
use Rattle.std.proofs.lemmas.List.{length-append}
use Rattle.std.proofs.lemmas.List.FromFn.{length-map-range_with_len}
use Rattle.fx_text.specs.declared.refusal.Refusal.{Refusal}
use Rattle.fx_text.specs.declared.refusal.ParseStop.{ParseStop}
use Rattle.fx_text.specs.declared.refusal.ParseStop.TheVariants as stop
use Rattle.fx_text.specs.Written.{Written}
use Rattle.fx_text.specs.Refusals.{refusal_at, IsRefused}
use Rattle.fx_text.specs.Ranges.{is_range, names_between, number_at_end, numbered, stem}
use Rattle.fx_settings.specs.Items.{item_of}
use Rattle.fx_settings.specs.Factors.{added, are_known, known_at}

module _ (limit : ℕ) (names : List (List ℕ)) (first last : Written)
    (regular : is_range first.text last.text ≡ true) where
  abbrev from : ℕ
  from = number_at_end first.text

  abbrev all : List (List ℕ)
  all = names_between first.text last.text

  -- all of it, after the test of the range
  abbrev by_count : Bool → Result (List (List ℕ)) Refusal
  by_count many =
      if many then Err (refusal_at 10 first)
      else (if are_known all names then Err (refusal_at 5 first) else Ok (names ++ all))

  counted : length all ≡ number_at_end last.text + 1 - from
  counted = length-map-range_with_len _ _ _

  is_counted : added limit names (item_of first (Some last)) ≡ by_count (nat_lt limit (length names + length all))
  is_counted = rw regular

  pub too_many : limit < length names + (number_at_end last.text + 1 - from)
      → added limit names (item_of first (Some last)) ≡ Err (refusal_at 10 first)
  too_many h = cc (is_counted, lt-ltb limit (length names + length all) (omega (arith, counted)))

  module _ (start count : ℕ) (is_start : start ≡ from) (is_count : count ≡ number_at_end last.text + 1 - from)
      (room : length names + count ≤ limit) where
    new : numbered (stem first.text) start count ≡ all
    new = cc

    fits : added limit names (item_of first (Some last))
        ≡ (if are_known all names then Err (refusal_at 5 first) else Ok (names ++ all))
    fits = cc (is_counted, le-ltb limit (length names + length all) (omega (arith, counted)))

    pub is_added : (r : Result (Unit {0}) ParseStop) (more : List (List ℕ))
        → OnOk r (more ≡ names ++ numbered (stem first.text) start count)
        → OnOk r (are_known (numbered (stem first.text) start count) names ≡ false)
        → OnOk r (added limit names (item_of first (Some last)) ≡ Ok more)
    is_added (Ok u) more grown fresh = fits ∙ rw (← new, fresh) (cc)
    is_added (Err e) more grown fresh = tt

    pub is_refused : (r : Result (Unit {0}) ParseStop)
        → IfErr r (IsRefused (known_at first (are_known (numbered (stem first.text) start count) names)))
        → IfErr r (IsRefused (added limit names (item_of first (Some last))))
    is_refused (Ok u) h = tt
    is_refused (Err stop.NoMemory) h = tt
    is_refused (Err (stop.Refused refusal)) h =
        fits ∙ rw (← new) (go _ h)
      where
        go : (known : Bool) → known_at first known ≡ Err refusal
            → (if known then Err (refusal_at 5 first) else Ok (names ++ numbered (stem first.text) start count))
            ≡ Err refusal
        go true e = cc
        go false e = cc e

    pub is_within : (r : Result (Unit {0}) ParseStop) (more : List (List ℕ))
        → OnOk r (more ≡ names ++ numbered (stem first.text) start count) → OnOk r (length more ≤ limit)
    is_within (Ok u) more grown = rw (grown, length-append, length-map-range_with_len) room
    is_within (Err e) more grown = tt
