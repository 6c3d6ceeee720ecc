-- Rules by which a text is refused, in the order in which they are asked.
use Rattle.std.specs.Prelude.{◌≡◌, ℕ, Bool, true, false, List, [], ◌∷◌, ◌++◌, Result, Ok, Err, if◌then◌else◌}
use Rattle.std.specs.List.{AllByRecursion}
use Rattle.fx_lexer.specs.declared.place.Place.{Place}
use Rattle.fx_text.specs.declared.refusal.Refusal.{Refusal}
use Rattle.fx_settings.specs.declared.rule.Rule.{Rule}
use Rattle.fx_text.specs.Refusals.{refused_at, ◌>>=◌}

-- a rule of this code, at a place
abbrev pub rule : ℕ → Place → Bool → Rule
rule code place applies = record { code = code; place = place; applies = applies }

-- the refusal by the first rule that applies
abbrev pub first_refusal : List Rule → Result (Unit {0}) Refusal
first_refusal [] = Ok tt
first_refusal (rule ∷ rules) = if rule.applies then Err (refused_at rule.code rule.place) else first_refusal rules

-- a value, unless a rule refuses it
abbrev pub unless_refused : {A : Type 0} → List Rule → A → Result A Refusal
unless_refused rules x = first_refusal rules >>= (λ none. Ok x)

-- a rule does not apply
abbrev pub DoesNotApply : Rule → Type 0
DoesNotApply rule = rule.applies ≡ false

-- a refusal is by the first of these rules that applies
pub record IsByFirst (rules : List Rule) (refusal : Refusal) : Type 0 where
  pub earlier : List Rule
  pub rule : Rule
  pub later : List Rule
  pub order : rules ≡ earlier ++ rule ∷ later
  pub none_before : AllByRecursion DoesNotApply earlier
  pub applies : rule.applies ≡ true
  pub refusal_is : refusal ≡ refused_at rule.code rule.place

-- what is accepted keeps every rule, and what is refused is refused by the first that applies
abbrev pub IsJudged : {A : Type 0} → List Rule → Result A Refusal → Type 0
IsJudged rules (Ok x) = AllByRecursion DoesNotApply rules
IsJudged rules (Err refusal) = IsByFirst rules refusal
