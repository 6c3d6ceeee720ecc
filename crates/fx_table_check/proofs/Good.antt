-- Books without a flaw are good, and what they claim is so.
use Rattle.std.proofs.Common.{ℕ, ◌≡◌, ◌+◌, Bool, true, false, ◌&&◌, cond, List, [], ◌∷◌, Option, Some, None, refl}
use Rattle.std.proofs.Common.{arith}
use Rattle.std.proofs.lemmas.Bool.{and_parts, and_from}
use Rattle.fx_strata.specs.Books.{Claim, Entry, Branch, Worse, Image, NoRoom, Floor, is_right, turns_after, are_in_turn}
use Rattle.fx_strata.specs.Books.{is_good}
use Rattle.fx_strata.specs.Laws.{NoneBetter, HasFactors}
use Rattle.fx_strata.proofs.Good.{none_better}
use Rattle.fx_table_book.specs.declared.base.Base.{Base}
use Rattle.fx_table_check.specs.declared.reason.Reason.{Reason}
use Rattle.fx_table_check.specs.declared.reason.Reason.TheVariants.{OtherRow}
use Rattle.fx_table_check.specs.declared.reason.Verdict.TheVariants.{Accepted}
use Rattle.fx_table_book.specs.Tables.{strata_of, IsBase}
use Rattle.fx_table_check.specs.Checking.{flaw, Flaw, or_later, first_flaw, flaw_of, verdict_of}
use Rattle.fx_table_book.proofs.Bases.{field}

reason-none : (a holds : Bool) (r : Reason) → cond a (cond holds None (Some r)) (Some OtherRow) ≡ None
    → (a && holds) ≡ true
reason-none true true r h = refl
reason-none true false r h = cc h
reason-none false holds r h = cc h

none-reason : (a holds : Bool) (r : Reason) → (a && holds) ≡ true
    → cond a (cond holds None (Some r)) (Some OtherRow) ≡ None
none-reason true true r h = refl
none-reason true false r h = cc h
none-reason false holds r h = cc h

right : (x : Claim) (rows : List ℕ) (e : Entry) → flaw x rows e ≡ None → is_right x rows e ≡ true
right x rows (Branch r) h = reason-none _ _ _ h
right x rows (Worse r) h = reason-none _ _ _ h
right x rows (Image r change) h = reason-none _ _ _ h
right x rows (NoRoom r) h = reason-none _ _ _ h
right x rows (Floor r) h = reason-none _ _ _ h

no-flaw : (x : Claim) (rows : List ℕ) (e : Entry) → is_right x rows e ≡ true → flaw x rows e ≡ None
no-flaw x rows (Branch r) h = none-reason _ _ _ h
no-flaw x rows (Worse r) h = none-reason _ _ _ h
no-flaw x rows (Image r change) h = none-reason _ _ _ h
no-flaw x rows (NoRoom r) h = none-reason _ _ _ h
no-flaw x rows (Floor r) h = none-reason _ _ _ h

both-none : (i : ℕ) (f : Option Reason) (l : Option Flaw) → or_later i f l ≡ None → (f ≡ None) × (l ≡ None)
both-none i None l h = (refl, h)
both-none i (Some r) l h = cc h

in-turn : (x : Claim) (turns : List (List ℕ)) (i : ℕ) (es : List Entry) → first_flaw x turns i es ≡ None
    → are_in_turn x turns es ≡ true
unfolding first_flaw
in-turn x [] i [] h = refl
in-turn x (c ∷ others) i [] h = cc h
in-turn x [] i (e ∷ es) h = cc h
in-turn x (c ∷ others) i (e ∷ es) h =
    let p = both-none i _ _ h in
    and_from _ _ (right x c e p.0) (in-turn x (turns_after x c e others) (i + 1) es p.1)

without : (x : Claim) (turns : List (List ℕ)) (i : ℕ) (es : List Entry) → are_in_turn x turns es ≡ true
    → first_flaw x turns i es ≡ None
unfolding first_flaw
without x [] i [] h = refl
without x (c ∷ others) i [] h = cc h
without x [] i (e ∷ es) h = cc h
without x (c ∷ others) i (e ∷ es) h =
    let p = and_parts _ _ h in
    cc (no-flaw x c e p.0, without x (turns_after x c e others) (i + 1) es p.1)

pub good : (x : Claim) (es : List Entry) → flaw_of x es ≡ None → is_good x es ≡ true
good x es h = in-turn x _ 0 es h

pub flawless : (x : Claim) (es : List Entry) → is_good x es ≡ true → flaw_of x es ≡ None
flawless x es h = without x _ 0 es h

pub accepted-none : (f : Option Flaw) → verdict_of f ≡ Accepted → f ≡ None
accepted-none None h = refl
accepted-none (Some f) h = cc h

pub proved : (base : Base) → IsBase base → (x : Claim) → x.strata ≡ strata_of base → (es : List Entry)
    → verdict_of (flaw_of x es) ≡ Accepted → HasFactors x.strata → NoneBetter x
proved base h x same es ok many =
    none_better x (rw same (field base h))
    (rw same (omega arith)) es
    (good x es (accepted-none _ ok)) many
