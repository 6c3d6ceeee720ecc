-- The factors of an effect. An effect is written as the sum of 2^i over its factors, where i is a factor's index from
-- 0.
use Rattle.std.specs.Prelude.{ℕ, ◌^◌, ◌++◌, ◌∷◌, List, [], Option, Some, None, Result, Ok, Err}
use Rattle.fx_language.specs.declared.code.TheConstants.{UNKNOWN_FACTOR}
use Rattle.fx_text.specs.declared.refusal.Refusal.{Refusal}
use Rattle.fx_text.specs.Written.{Written}
use Rattle.fx_text.specs.Names.{place_of}
use Rattle.fx_text.specs.Refusals.{refusal_at, ◌>>=◌}

-- the main effect of the factor at this index, or E4 where there is none
abbrev pub main_of : Written → Option ℕ → Result ℕ Refusal
main_of w None = Err (refusal_at UNKNOWN_FACTOR w)
main_of w (Some i) = Ok (2 ^ i)

-- others, and after them those of the factors with these names, or E4 where one is no factor's
abbrev pub mains_from : Written → List (List ℕ) → List ℕ → List (List ℕ) → Result (List ℕ) Refusal
mains_from w factors mains [] = Ok mains
mains_from w factors mains (name ∷ names) =
    main_of w (place_of name factors) >>= (λ e. mains_from w factors (mains ++ e ∷ []) names)
