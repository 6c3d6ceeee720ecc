-- Effects as they are written, what they represent, and what is refused.
use Rattle.std.proofs.Common.{◌≡◌, ℕ, List, [], ◌∷◌, length, Result, Ok, Err, refl}
use Rattle.std.specs.Prelude.{codes}
use Rattle.std.specs.Fmt.{digits}
use Rattle.std.specs.Int.Count.{ones}
use Rattle.fx_lexer.specs.declared.token.Token.{Token}
use Rattle.fx_lexer.specs.declared.token.LexFault.{LexFault}
use Rattle.fx_lexer.specs.Lexing.{lexed}
use Rattle.fx_text.specs.declared.refusal.Refusal.{Refusal}
use Rattle.fx_text.specs.Refusals.{refusal_at}
use Rattle.fx_text.specs.Written.{Written, written}
use Rattle.fx_vectors.specs.Effects.{factors_of, pair_count}
use Rattle.fx_demands.specs.Bars.{bars_of}
use Rattle.fx_effects.specs.Expressions.{Expression, expressions_of}
use Rattle.fx_effects.specs.Lists.{effects_of, few_effects}
use Rattle.fx_effects.specs.Models.{EffectLists, check_some_effects, lists_of, told_apart, without}

abbrev factors : List (List ℕ)
factors = codes "X1" ∷ codes "x2" ∷ codes "X3" ∷ codes "D" ∷ []

among : List ℕ → Result (List Token) LexFault → List Written
among text (Ok tokens) = written text tokens
among text (Err fault) = []

-- what a list says
said : List ℕ → Result (List Expression) Refusal
unfolding lexed among
said text = expressions_of factors (among text (lexed text))

abbrev expression : List ℕ → ℕ → Expression
expression stars upto = record { stars = stars; upto = upto }

-- stars, bars and ranges; there are as many as 64 factors in a union unless `@` says fewer
lists :
    (said (codes "x1*X3 d") ≡ Ok (expression (5 ∷ []) 64 ∷ expression (8 ∷ []) 64 ∷ []))
    × (said (codes "X1|X2*X3|D@2") ≡ Ok (expression (1 ∷ 6 ∷ 8 ∷ []) 2 ∷ []))
    × (said (codes "D X2-X3 X1*X1")
    ≡ Ok (expression (8 ∷ []) 64 ∷ expression (2 ∷ 4 ∷ []) 1 ∷ expression (1 ∷ []) 64 ∷ []))
    × (said (codes "X1*X2|D@1") ≡ Ok (expression (3 ∷ 8 ∷ []) 1 ∷ []))
    × (said (codes "X1@65") ≡ Ok (expression (1 ∷ []) 64 ∷ []))
unfolding said digits ones
lists = (refl, refl, refl, refl, refl)

abbrev refused : ℕ → ℕ → Result (List Expression) Refusal
refused code column = Err (record { code = code; line = 1; column = column })

-- a name that is no factor's, a range that is none, and a number below all stars
refusals :
    (said (codes "D E X3-X1") ≡ refused 4 3)
    × (said (codes "D X1-X4") ≡ refused 4 3)
    × (said (codes "D X3-X1 E") ≡ refused 30 3)
    × (said (codes "D X1-D") ≡ refused 30 3)
    × (said (codes "X1*X2|X2*D@1") ≡ refused 29 12)
    × (said (codes "X1@0") ≡ refused 29 4)
unfolding said digits ones
refusals = (refl, refl, refl, refl, refl, refl)

-- the effects of a list in effect order, each once: those of fewer factors first
effects :
    (effects_of (expression (1 ∷ 2 ∷ 4 ∷ []) 2 ∷ expression (2 ∷ []) 64 ∷ [])
    ≡ 1 ∷ 2 ∷ 4 ∷ 3 ∷ 5 ∷ 6 ∷ [])
    × (effects_of (expression (8 ∷ []) 64 ∷ expression (1 ∷ 6 ∷ []) 64 ∷ [])
    ≡ 1 ∷ 8 ∷ 6 ∷ 7 ∷ [])
    × (effects_of (expression (4 ∷ 1 ∷ []) 1 ∷ []) ≡ 1 ∷ 4 ∷ [])
unfolding bars_of factors_of ones
effects = (refl, refl, refl)

-- 100,000 effects are accepted, and one more is refused
most_effects : (word : Written) (effects : List ℕ) → length effects ≡ 100000 → few_effects word effects ≡ Ok effects
most_effects word effects e = rw e refl

more_effects : (word : Written) (effects : List ℕ) → length effects ≡ 100001
    → few_effects word effects ≡ Err (refusal_at 23 word)
more_effects word effects e = rw e refl

no_effects : (word : Written)
    → (check_some_effects word [] ≡ Err (refusal_at 2 word)) × (check_some_effects word (1 ∷ []) ≡ Ok tt)
no_effects word = (refl, refl)

-- 2,000,000 pairs are accepted, and one more is refused
most_pairs : (q : ℕ) (word : Written) (estimate others : List ℕ)
    → pair_count q estimate (without estimate others) ≡ 2000000
    → told_apart q word estimate others ≡ Ok (record { estimate = estimate; nonnegligible = without estimate others })
most_pairs q word estimate others e = rw e refl

more_pairs : (q : ℕ) (word : Written) (estimate others : List ℕ)
    → pair_count q estimate (without estimate others) ≡ 2000001
    → told_apart q word estimate others ≡ Err (refusal_at 22 word)
more_pairs q word estimate others e = rw e refl

-- what a statement asks for
model : List ℕ → Result EffectLists Refusal
unfolding lexed among
model text = lists_of 2 factors (among text (lexed text))

-- effects to be estimated are no others
models :
    (model (codes "model estimate=(X1 D)") ≡ Ok (record { estimate = 1 ∷ 8 ∷ []; nonnegligible = [] }))
    × (model (codes "model e=(X1|X2) nonnegligible=(X1|X2|D@2)")
    ≡ Ok (record { estimate = 1 ∷ 2 ∷ 3 ∷ []; nonnegligible = 8 ∷ 9 ∷ 10 ∷ [] }))
    × (model (codes "model e=(X1) n=(X2 E)") ≡ Err (record { code = 4; line = 1; column = 20 }))
    × (model [] ≡ Err (record { code = 2; line = 1; column = 1 }))
unfolding model digits bars_of factors_of ones
models = (refl, refl, refl, refl)
