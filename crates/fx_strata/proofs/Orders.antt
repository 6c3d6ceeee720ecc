-- The named orders of some designs, computed.
use Rattle.std.proofs.Common.{ℕ, ◌≡◌, true, false, [], ◌∷◌, refl}
use Rattle.fx_strata.specs.Designs.{Strata, Part, Words, Unclear}
use Rattle.fx_strata.specs.Orders.{factors_first, cheng_wu_first, cheng_wu_second, sitter_chen_feder, most_clear}

abbrev A : ℕ → Part
A k = Words false k

abbrev B : ℕ → Part
B k = Words true k

-- seven factors in four blocks
abbrev seven : Strata
seven = record { q = 2; m = 4; h = 2; w = 0; n = 7 }

seven-factors-first : factors_first seven
    ≡ (A 3 ∷ A 4 ∷ A 5 ∷ A 6 ∷ A 7 ∷ B 2 ∷ B 3 ∷ B 4 ∷ B 5 ∷ B 6 ∷ B 7 ∷ [])
seven-factors-first = refl

seven-cheng-wu-first : cheng_wu_first seven
    ≡ (A 3 ∷ A 4 ∷ B 2 ∷ A 5 ∷ A 6 ∷ B 3 ∷ A 7 ∷ B 4 ∷ B 5 ∷ B 6 ∷ B 7 ∷ [])
seven-cheng-wu-first = refl

seven-cheng-wu-second : cheng_wu_second seven
    ≡ (A 3 ∷ B 2 ∷ A 4 ∷ A 5 ∷ B 3 ∷ A 6 ∷ A 7 ∷ B 4 ∷ B 5 ∷ B 6 ∷ B 7 ∷ [])
seven-cheng-wu-second = refl

seven-sitter-chen-feder : sitter_chen_feder seven
    ≡ (A 3 ∷ B 2 ∷ A 4 ∷ B 3 ∷ A 5 ∷ B 4 ∷ A 6 ∷ B 5 ∷ A 7 ∷ B 6 ∷ B 7 ∷ [])
seven-sitter-chen-feder = refl

seven-most-clear : most_clear seven
    ≡ (A 3 ∷ Unclear ∷ A 4 ∷ A 5 ∷ A 6 ∷ A 7 ∷ B 2 ∷ B 3 ∷ B 4 ∷ B 5 ∷ B 6 ∷ B 7 ∷ [])
seven-most-clear = refl

-- a split plot of one inside factor and three outside factors
abbrev split : Strata
split = record { q = 2; m = 3; h = 1; w = 1; n = 3 }

split-cheng-wu-first : cheng_wu_first split ≡ (A 3 ∷ A 4 ∷ B 2 ∷ B 3 ∷ B 4 ∷ [])
split-cheng-wu-first = refl

-- without a base each is the order of least aberration
abbrev five : Strata
five = record { q = 2; m = 4; h = 0; w = 0; n = 5 }

five-factors-first : factors_first five ≡ (A 3 ∷ A 4 ∷ A 5 ∷ [])
five-factors-first = refl

five-cheng-wu-first : cheng_wu_first five ≡ (A 3 ∷ A 4 ∷ A 5 ∷ [])
five-cheng-wu-first = refl

five-most-clear : most_clear five ≡ (A 3 ∷ Unclear ∷ A 4 ∷ A 5 ∷ [])
five-most-clear = refl

-- two factors have no words of three
abbrev two : Strata
two = record { q = 2; m = 2; h = 1; w = 0; n = 2 }

two-sitter-chen-feder : sitter_chen_feder two ≡ (B 2 ∷ [])
two-sitter-chen-feder = refl

two-most-clear : most_clear two ≡ (Unclear ∷ B 2 ∷ [])
two-most-clear = refl
