-- What it says of the parts of a chain of readers, and of a choice, that it gives a value.
use Rattle.std.proofs.Common.{◌≡◌, Bool, true, false, Result, Ok, Err, refl}
use Rattle.std.specs.Prelude.{if◌then◌else◌}
use Rattle.fx_text.specs.declared.refusal.Refusal.{Refusal}
use Rattle.fx_text.specs.Refusals.{◌>>=◌}

-- a chain that gives a value has one after its first part
pub bind_ok : {A B : Type 0} (r : Result A Refusal) (f : A → Result B Refusal) (x : B) → (r >>= f) ≡ Ok x
    → (a : A) × (r ≡ Ok a) × (f a ≡ Ok x)
bind_ok (Ok a) f x e = (a, refl, e)
bind_ok (Err refusal) f x e = absurd (cc e)

pub same_ok : {A : Type 0} (x y : A) → ◌≡◌ {A = Result A Refusal} (Ok x) (Ok y) → x ≡ y
same_ok x y e = cc

-- a value that is refused unless a test holds
pub if_ok : {A : Type 0} (b : Bool) (y x : A) (refusal : Refusal)
    → ◌≡◌ {A = Result A Refusal} (if b then Ok y else Err refusal) (Ok x) → (b ≡ true) × (y ≡ x)
if_ok true y x refusal e = (refl, same_ok y x e)
if_ok false y x refusal e = absurd (cc e)

-- what is refused where a test holds
pub unless_ok : {A : Type 0} (b : Bool) (r : Result A Refusal) (x : A) (refusal : Refusal)
    → (if b then Err refusal else r) ≡ Ok x → (b ≡ false) × (r ≡ Ok x)
unless_ok true r x refusal e = absurd (cc e)
unless_ok false r x refusal e = (refl, e)
