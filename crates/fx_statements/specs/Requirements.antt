-- What a step requires of its design.
use Rattle.std.specs.Prelude.{ℕ, ◌≡◌, false, List, [], Option, Some, None, Result, Ok}
use Rattle.std.proofs.Props.{props}
use Rattle.fx_designs.specs.Problems.{Requirement, AtResolution, ForEffects}
use Rattle.fx_text.specs.declared.refusal.Refusal.{Refusal}
use Rattle.fx_text.specs.Written.{Written}
use Rattle.fx_text.specs.Statements.{statement_of}
use Rattle.fx_text.specs.Refusals.{◌>>=◌}
use Rattle.fx_language.specs.declared.symbol.Symbol.TheVariants.{Model}
use Rattle.fx_settings.specs.declared.settings.Criterion.{Criterion}
use Rattle.fx_settings.specs.declared.settings.Criterion.TheVariants as criterion
use Rattle.fx_vectors.specs.Question.{is_resolution}
use Rattle.fx_effects.specs.Models.{lists_of}

-- the effects that a MODEL statement names
abbrev pub effects_by : ℕ → List (List ℕ) → List Written → Result Requirement Refusal
effects_by q factors s = lists_of q factors s >>= (λ lists. Ok (ForEffects lists.estimate lists.nonnegligible))

-- and that of a step, where it has one
abbrev pub effects_required : ℕ → List (List ℕ) → Option (List Written) → Result Requirement Refusal
effects_required q factors None = effects_by q factors []
effects_required q factors (Some s) = effects_by q factors s

-- What a step with these factors requires, where it is of this kind. The highest resolution is at least 3, the lowest
-- that may be asked for.
abbrev pub requirement_by : ℕ → List (List ℕ) → List (List Written) → Criterion → Result Requirement Refusal
requirement_by q factors statements (criterion.Resolution r) = Ok (AtResolution r)
requirement_by q factors statements criterion.Highest = Ok (AtResolution 3)
requirement_by q factors statements criterion.Effects = effects_required q factors (statement_of Model statements)

-- a requirement is what a criterion of this kind gives
abbrev pub IsOfKind : Criterion → Requirement → Type 0
IsOfKind (criterion.Resolution r) requirement = requirement ≡ AtResolution r
IsOfKind criterion.Highest requirement = requirement ≡ AtResolution 3
IsOfKind criterion.Effects requirement = is_resolution requirement ≡ false

pub IsOfKind-prop : (kind : Criterion) (requirement : Requirement) → IsProp (IsOfKind kind requirement)
IsOfKind-prop (criterion.Resolution r) requirement = Prim.hlevel props
IsOfKind-prop criterion.Highest requirement = Prim.hlevel props
IsOfKind-prop criterion.Effects requirement = Prim.hlevel props
