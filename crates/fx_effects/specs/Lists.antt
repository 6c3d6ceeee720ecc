-- The set of effects that a list represents.
use Rattle.std.specs.Prelude.{ℕ, nat_le, List, [], ◌∷◌, ◌++◌, length, Result, Ok, Err, if◌then◌else◌}
use Rattle.std.specs.List.{AllByRecursion}
use Rattle.fx_language.specs.declared.code.TheConstants.{TOO_MANY_EFFECTS}
use Rattle.fx_text.specs.declared.refusal.Refusal.{Refusal}
use Rattle.fx_text.specs.Written.{Written}
use Rattle.fx_text.specs.Refusals.{refusal_at}
use Rattle.fx_demands.specs.declared.unions.TheConstants.{MOST_EFFECTS}
use Rattle.fx_demands.specs.Bars.{bars_of, in_order, AreNumbers}
use Rattle.fx_effects.specs.Expressions.{Expression}

-- the effects that each of them represents, one after another
abbrev pub effects_written : List Expression → List ℕ
effects_written [] = []
effects_written (e ∷ rest) = bars_of e.stars e.upto ++ effects_written rest

-- these effects in effect order, each once
abbrev pub effects_of : List Expression → List ℕ
effects_of expressions = in_order (effects_written expressions)

-- at most 100,000 effects, or E23 at the list's word
abbrev pub few_effects : Written → List ℕ → Result (List ℕ) Refusal
few_effects word effects =
    if nat_le (length effects) MOST_EFFECTS then Ok effects else Err (refusal_at TOO_MANY_EFFECTS word)

-- stars that are numbers of 64 bits
abbrev pub AreSmall : List Expression → Type 0
AreSmall expressions = AllByRecursion (λ (e : Expression). AreNumbers e.stars) expressions
