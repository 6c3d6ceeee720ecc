-- A text that is refused, and the place at which it is.
use Rattle.std.specs.Prelude.{◌≡◌, ℕ, true, Result, Ok, Err}
use Rattle.fx_language.specs.Refusals.{is_rule}
use Rattle.fx_lexer.specs.declared.place.Place.{Place}
use Rattle.fx_text.specs.declared.refusal.Refusal.{Refusal}
use Rattle.fx_text.specs.declared.refusal.ParseStop.{ParseStop}
use Rattle.fx_text.specs.declared.refusal.ParseStop.TheVariants as stop
use Rattle.fx_text.specs.Written.{Written}

-- the place of what is written
abbrev pub place_at : Written → Place
place_at w = record { line = w.line; column = w.column }

-- the refusal at a place, by this code
abbrev pub refused_at : ℕ → Place → Refusal
refused_at code place = record { code = code; line = place.line; column = place.column }

-- the refusal at what is written, by this code
abbrev pub refusal_at : ℕ → Written → Refusal
refusal_at code w = refused_at code (place_at w)

infixl 10 ◌>>=◌
-- What follows from a value, where none is refused before it.
abbrev pub ◌>>=◌ : {A B : Type 0} → Result A Refusal → (A → Result B Refusal) → Result B Refusal
(Ok x) >>= f = f x
(Err refusal) >>= f = Err refusal

-- the text's meaning is this refusal; want of memory is no property of the text
abbrev pub IsRefused : {A : Type 0} → Result A Refusal → ParseStop → Type 0
IsRefused meaning (stop.Refused refusal) = meaning ≡ Err refusal
IsRefused meaning stop.NoMemory = Unit {0}

-- a refusal by a rule, at one of these places
pub record IsByRule (IsPlace : ℕ → ℕ → Type 0) (refusal : Refusal) : Type 0 where
  pub rule : is_rule refusal.code ≡ true
  pub place : IsPlace refusal.line refusal.column
