-- What the laws on words give where each run index is one of blocks: a law that is weakened does not.
use Rattle.std.proofs.Common.{ℕ, List, arith}
use Rattle.fx_strata.specs.Designs.{Strata}
use Rattle.fx_strata.specs.Spreads.{AreSpread, NewAreSpread, NewWordsBySpreads, WordsBySpreads}

abbrev all_in_blocks : ℕ → ℕ → Strata
all_in_blocks m n = record { q = 2; m = m; h = m; w = 0; n = n }

words_in_blocks : (m n : ℕ) → WordsBySpreads (all_in_blocks m n) → (rows : List ℕ) (k : ℕ)
    → AreSpread (all_in_blocks m n) rows k
words_in_blocks m n law rows k = law rows k (omega arith)

first_row_in_blocks : NewWordsBySpreads (all_in_blocks 2 3) → (rows : List ℕ)
    → NewAreSpread (all_in_blocks 2 3) rows 3 1
first_row_in_blocks law rows = law rows 3 1 (omega arith) (omega arith) (omega arith) (omega arith)
