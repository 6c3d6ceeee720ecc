-- The keys of tables of 16 runs, computed over the runs from the rules of their designs. X1, X2, X3 and X4 are the unit
-- vectors, rows 1, 2, 4 and 8; products of them are sums: X2*X3*X4 is row 14.
use Rattle.std.proofs.Common.{ℕ, ◌≡◌, List, [], ◌∷◌, refl}
use Rattle.fx_designs.specs.Galois.{add, mul, neg, inv, prime_of, degree_of, reduction_of}
use Rattle.fx_designs.specs.Vectors.{vectors_of}
use Rattle.fx_designs.specs.Runs.{runs_of, is_constant, is_constant_in_blocks}
use Rattle.fx_designs.specs.Patterns.{constant_words}
use Rattle.fx_strata.specs.Designs.{Strata, key_of_design}
use Rattle.fx_strata.specs.Orders.{factors_first}

-- the key of a design in four blocks, whose factors and block factors have these rows
abbrev key_in_blocks : ℕ → List ℕ → List ℕ → List ℕ
key_in_blocks n factors blocks =
    (let x : Strata = record { q = 2; m = 4; h = 2; w = 0; n = n } in
    key_of_design x (factors_first x) (vectors_of 2 4 blocks) (vectors_of 2 4 factors))

-- the key of a split plot in four whole plots, with two inside factors
abbrev key_in_whole_plots : ℕ → List ℕ → List ℕ
key_in_whole_plots n factors =
    (let x : Strata = record { q = 2; m = 4; h = 2; w = 2; n = n } in
    key_of_design x (factors_first x) [] (vectors_of 2 4 factors))

-- [1]=X2*X3*X4 [2]=X1*X3*X4: B2 1 B3 2
four_in_blocks : key_in_blocks 4 (1 ∷ 2 ∷ 4 ∷ 8 ∷ []) (14 ∷ 13 ∷ [])
    ≡ (0 ∷ 0 ∷ 1 ∷ 2 ∷ 0 ∷ [])
unfolding prime_of degree_of reduction_of add mul neg inv constant_words runs_of is_constant is_constant_in_blocks
four_in_blocks = refl

-- X5=X1*X2*X3*X4 [1]=X2*X3*X4 [2]=X1*X3*X4: A5 1 B2 3 B3 3
five_in_blocks : key_in_blocks 5 (1 ∷ 2 ∷ 4 ∷ 8 ∷ 15 ∷ []) (14 ∷ 13 ∷ [])
    ≡ (0 ∷ 0 ∷ 1 ∷ 3 ∷ 3 ∷ 0 ∷ 0 ∷ [])
unfolding prime_of degree_of reduction_of add mul neg inv constant_words runs_of is_constant is_constant_in_blocks
five_in_blocks = refl

-- X5=X2*X3*X4 X6=X1*X3*X4 [1]=X3*X4 [2]=X1*X2*X4: A4 3 B2 3 B3 8 B6 1
six_in_blocks : key_in_blocks 6 (1 ∷ 2 ∷ 4 ∷ 8 ∷ 14 ∷ 13 ∷ []) (12 ∷ 11 ∷ [])
    ≡ (0 ∷ 3 ∷ 0 ∷ 0 ∷ 3 ∷ 8 ∷ 0 ∷ 0 ∷ 1 ∷ [])
unfolding prime_of degree_of reduction_of add mul neg inv constant_words runs_of is_constant is_constant_in_blocks
six_in_blocks = refl

-- X5=X2*X3*X4 X6=X1*X3*X4 X7=X1*X2*X4 [1]=X1*X2*X3*X4 [2]=X3*X4: A4 7 B2 9 B4 12 B6 3
seven_in_blocks : key_in_blocks 7 (1 ∷ 2 ∷ 4 ∷ 8 ∷ 14 ∷ 13 ∷ 11 ∷ []) (15 ∷ 12 ∷ [])
    ≡ (0 ∷ 7 ∷ 0 ∷ 0 ∷ 0 ∷ 9 ∷ 0 ∷ 12 ∷ 0 ∷ 3 ∷ 0 ∷ [])
unfolding prime_of degree_of reduction_of add mul neg inv constant_words runs_of is_constant is_constant_in_blocks
seven_in_blocks = refl

-- X1 and X2 inside, no rules: no words
two_in_whole_plots : key_in_whole_plots 2 (1 ∷ 2 ∷ 4 ∷ 8 ∷ [])
    ≡ (0 ∷ 0 ∷ 0 ∷ 0 ∷ 0 ∷ [])
unfolding prime_of degree_of reduction_of add mul neg inv constant_words runs_of is_constant is_constant_in_blocks
two_in_whole_plots = refl

-- X1 and X2 inside, X5=X1*X2*X3*X4: A5 1 B3 1 B4 2
three_in_whole_plots : key_in_whole_plots 3 (1 ∷ 2 ∷ 4 ∷ 8 ∷ 15 ∷ [])
    ≡ (0 ∷ 0 ∷ 1 ∷ 0 ∷ 1 ∷ 2 ∷ 0 ∷ [])
unfolding prime_of degree_of reduction_of add mul neg inv constant_words runs_of is_constant is_constant_in_blocks
three_in_whole_plots = refl

-- X1 and X2 inside, X5=X2*X3*X4 X6=X1*X3*X4: A4 3 B2 1 B3 4 B4 2 B5 2
four_in_whole_plots : key_in_whole_plots 4 (1 ∷ 2 ∷ 4 ∷ 8 ∷ 14 ∷ 13 ∷ [])
    ≡ (0 ∷ 3 ∷ 0 ∷ 0 ∷ 1 ∷ 4 ∷ 2 ∷ 2 ∷ 0 ∷ [])
unfolding prime_of degree_of reduction_of add mul neg inv constant_words runs_of is_constant is_constant_in_blocks
four_in_whole_plots = refl
