-- How many words are confounded with blocks, in designs that can be worked by hand.
use Rattle.std.proofs.Common.{ℕ, ◌≡◌, [], ◌∷◌, List, refl}
use Rattle.fx_designs.specs.Galois.{add, mul, neg, prime_of, degree_of, reduction_of}
use Rattle.fx_designs.specs.Runs.{is_constant, is_constant_in_blocks, runs_of}
use Rattle.fx_alias.specs.BlockWords.{block_words_of}

abbrev in_blocks : ℕ → ℕ → ℕ → ℕ → List ℕ → List ℕ
in_blocks q m s t rows =
    block_words_of (record { shape = record { q = q; m = m; s = s; t = t }; rows = rows })

-- Eight runs in four blocks, by B*C and A*C, which confound the three interactions. A half fraction with D = A*B*C in
-- two blocks, by A*B: A*B and C*D are confounded, and A*B*C*D is constant over all runs. Nine runs in three blocks, by
-- A*B, which is one word with A^2*B^2. Without blocks there are none.
confounded_words :
    (in_blocks 2 3 3 2 (1 ∷ 2 ∷ 4 ∷ 6 ∷ 5 ∷ []) ≡ 0 ∷ 3 ∷ 0 ∷ [])
    × (in_blocks 2 3 4 1 (1 ∷ 2 ∷ 4 ∷ 7 ∷ 3 ∷ []) ≡ 0 ∷ 2 ∷ 0 ∷ 0 ∷ [])
    × (in_blocks 3 2 2 1 (1 ∷ 3 ∷ 4 ∷ []) ≡ 0 ∷ 1 ∷ [])
    × (in_blocks 2 2 3 0 (1 ∷ 2 ∷ 3 ∷ []) ≡ 0 ∷ 0 ∷ 0 ∷ [])
unfolding prime_of degree_of reduction_of add mul neg runs_of is_constant is_constant_in_blocks block_words_of
confounded_words = (refl, refl, refl, refl)
