-- What is refused in a text, where a part of it is.
use Rattle.std.proofs.Common.{◌≡◌, Result, Ok, Err, IfErr, sym, subst, ap}
use Rattle.std.specs.Result.{IsErrAnd}
use Rattle.fx_text.specs.declared.refusal.Refusal.{Refusal}
use Rattle.fx_text.specs.declared.refusal.ParseStop.{ParseStop}
use Rattle.fx_text.specs.declared.refusal.ParseStop.TheVariants as stop
use Rattle.fx_text.specs.Refusals.{IsRefused, ◌>>=◌}

-- what is passed on refuses the text, if that is its meaning
pub refused : {A B : Type 0} (meaning : Result A Refusal) (r : Result B ParseStop) (reason : ParseStop)
    → IsErrAnd r (λ e. e ≡ reason) → IsRefused meaning reason → IfErr r (IsRefused meaning)
refused meaning (Ok value) reason is h = tt
refused meaning (Err e) reason is h = subst (IsRefused meaning) (sym is) h

-- what follows from a part is refused with it
pub stopped : {A B : Type 0} (m : Result A Refusal) (f : A → Result B Refusal) (reason : ParseStop) → IsRefused m reason
    → IsRefused (m >>= f) reason
stopped m f (stop.Refused refusal) h = ap (λ m. m >>= f) h
stopped m f stop.NoMemory h = tt
