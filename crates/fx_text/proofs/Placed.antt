-- Refusals by a rule, at the places of what is written.
use Rattle.std.proofs.Common.{◌≡◌, ℕ, zero, suc, Bool, true, false, List, [], ◌∷◌, take, drop, Some, Result, Ok, Err}
use Rattle.std.specs.Prelude.{IfErr, IfSome, slice_get, if◌then◌else◌}
use Rattle.std.specs.List.{AllByRecursion}
use Rattle.fx_language.specs.declared.symbol.Symbol.{Symbol}
use Rattle.fx_language.specs.declared.symbol.Symbol.TheVariants as symbol
use Rattle.fx_language.specs.Symbols.{is}
use Rattle.fx_lexer.specs.declared.place.Place.{Place}
use Rattle.fx_text.specs.declared.refusal.Refusal.{Refusal}
use Rattle.fx_text.specs.Written.{Written, begins}
use Rattle.fx_text.specs.Phrases.{start_of, preceding, after}
use Rattle.fx_text.specs.Statements.{in_front, statements_of, rest_of_step, steps_of, statement_of}
use Rattle.fx_text.specs.Refusals.{refused_at, refusal_at, IsByRule, ◌>>=◌}
use Rattle.fx_language.specs.Refusals.{is_rule}

-- what is written is at these places
abbrev pub IsPlaced : (ℕ → ℕ → Type 0) → Written → Type 0
IsPlaced P w = P w.line w.column

-- and all of it
abbrev pub ArePlaced : (ℕ → ℕ → Type 0) → List Written → Type 0
ArePlaced P s = AllByRecursion (IsPlaced P) s

-- and each of some statements
abbrev pub AreAllPlaced : (ℕ → ℕ → Type 0) → List (List Written) → Type 0
AreAllPlaced P statements = AllByRecursion (ArePlaced P) statements

-- a refusal is by a rule, at one of these places
abbrev pub Placed : {A : Type 0} → (ℕ → ℕ → Type 0) → Result A Refusal → Type 0
Placed P result = IfErr result (IsByRule P)

module _ (P : ℕ → ℕ → Type 0) where
  pub here : (code : ℕ) (place : Place) → is_rule code ≡ true → P place.line place.column
      → IsByRule P (refused_at code place)
  here code place rule at = record { rule = rule; place = at }

  pub written : (code : ℕ) (w : Written) → is_rule code ≡ true → IsPlaced P w → IsByRule P (refusal_at code w)
  written code w rule at = record { rule = rule; place = at }

  pub chain : {A B : Type 0} (x : Result A Refusal) (f : A → Result B Refusal) → Placed P x
      → ((value : A) → Placed P (f value)) → Placed P (x >>= f)
  chain (Ok value) f first later = later value
  chain (Err refusal) f first later = first

  pub both : {A : Type 0} (b : Bool) (x y : Result A Refusal) → Placed P x → Placed P y → Placed P (if b then x else y)
  both true x y first second = first
  both false x y first second = second

  pub dropped : (n : ℕ) (s : List Written) → ArePlaced P s → ArePlaced P (drop n s)
  dropped zero s h = h
  dropped (suc n) [] h = tt
  dropped (suc n) (w ∷ s) h = dropped n s h.1

  pub taken : (n : ℕ) (s : List Written) → ArePlaced P s → ArePlaced P (take n s)
  taken zero s h = tt
  taken (suc n) [] h = tt
  taken (suc n) (w ∷ s) h = (h.0, taken n s h.1)

  pub at : (n : ℕ) (s : List Written) → ArePlaced P s → IfSome (slice_get s n) (IsPlaced P)
  at n [] h = tt
  at zero (w ∷ s) h = h.0
  at (suc n) (w ∷ s) h = at n s h.1

  pub before_it : (symbol : Symbol) (s : List Written) → ArePlaced P s → ArePlaced P (preceding symbol s)
  before_it symbol s h = taken _ s h

  pub after_it : (symbol : Symbol) (s : List Written) → ArePlaced P s → ArePlaced P (after symbol s)
  after_it symbol [] h = tt
  after_it symbol (w ∷ s) h = by_test (is symbol w.symbol) (after_it symbol s h.1)
    where
      by_test : (b : Bool) → ArePlaced P (after symbol s) → ArePlaced P (if b then s else after symbol s)
      by_test true later = h.1
      by_test false later = later

  pub start : (s : List Written) → P 1 1 → ArePlaced P s → P (start_of s).line (start_of s).column
  start [] front h = front
  start (w ∷ s) front h = h.0

  in_front_of : (w : Written) (statements : List (List Written)) → IsPlaced P w → AreAllPlaced P statements
      → AreAllPlaced P (in_front w statements)
  in_front_of w [] first h = ((first, tt), tt)
  in_front_of w (s ∷ rest) first h = ((first, h.0), h.1)

  pub statements : (s : List Written) → ArePlaced P s → AreAllPlaced P (statements_of s)
  statements [] h = tt
  statements (w ∷ rest) h = by_test (is symbol.Semicolon w.symbol) (statements rest h.1)
    where
      by_test : (b : Bool) → AreAllPlaced P (statements_of rest)
          → AreAllPlaced P (if b then [] ∷ statements_of rest else in_front w (statements_of rest))
      by_test true later = (tt, later)
      by_test false later = in_front_of w (statements_of rest) h.0 later

  all_taken : (n : ℕ) (s : List (List Written)) → AreAllPlaced P s → AreAllPlaced P (take n s)
  all_taken zero s h = tt
  all_taken (suc n) [] h = tt
  all_taken (suc n) (w ∷ s) h = (h.0, all_taken n s h.1)

  pub steps : (s : List (List Written)) → AreAllPlaced P s → AllByRecursion (AreAllPlaced P) (steps_of s)
  steps [] h = tt
  steps (s ∷ rest) h = by_test (begins symbol.Proc s) (steps rest h.1)
    where
      by_test : (b : Bool) → AllByRecursion (AreAllPlaced P) (steps_of rest)
          → AllByRecursion (AreAllPlaced P) (if b then (s ∷ rest_of_step rest) ∷ steps_of rest else steps_of rest)
      by_test true later = ((h.0, all_taken _ rest h.1), later)
      by_test false later = later

  pub statement : (word : Symbol) (s : List (List Written)) → AreAllPlaced P s
      → IfSome (statement_of word s) (ArePlaced P)
  statement word [] h = tt
  statement word (s ∷ rest) h = by_test (begins word s) (statement word rest h.1)
    where
      by_test : (b : Bool) → IfSome (statement_of word rest) (ArePlaced P)
          → IfSome (if b then Some s else statement_of word rest) (ArePlaced P)
      by_test true later = h.0
      by_test false later = later
