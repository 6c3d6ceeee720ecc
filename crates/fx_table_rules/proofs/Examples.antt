-- All rows of small designs: with block factors, and with inside factors.
use Rattle.std.proofs.Common.{◌≡◌, [], ◌∷◌, refl}
use Rattle.fx_strata.specs.Designs.{Strata}
use Rattle.fx_table_rules.specs.Rules.{all_rows, factor_rows, block_rows}

-- 16 runs in four blocks
abbrev blocked : Strata
blocked = record { q = 2; m = 4; h = 2; w = 0; n = 3 }

with-blocks : all_rows blocked (4 ∷ 8 ∷ 15 ∷ []) ≡ 4 ∷ 8 ∷ 15 ∷ 1 ∷ 2 ∷ []
with-blocks = refl

factors : factor_rows blocked (1 ∷ 2 ∷ 4 ∷ 8 ∷ 15 ∷ [])
    ≡ (1 ∷ 0 ∷ 0 ∷ 0 ∷ []) ∷ (0 ∷ 1 ∷ 0 ∷ 0 ∷ []) ∷ (0 ∷ 0 ∷ 1 ∷ 0 ∷ []) ∷ []
factors = refl

blocks : block_rows blocked (1 ∷ 2 ∷ 4 ∷ 8 ∷ 15 ∷ []) ≡ (0 ∷ 0 ∷ 0 ∷ 1 ∷ []) ∷ (1 ∷ 1 ∷ 1 ∷ 1 ∷ []) ∷ []
blocks = refl

-- four whole plots
abbrev split : Strata
split = record { q = 2; m = 4; h = 2; w = 2; n = 2 }

without-blocks : all_rows split (1 ∷ 2 ∷ 4 ∷ 8 ∷ []) ≡ 1 ∷ 2 ∷ 4 ∷ 8 ∷ []
without-blocks = refl
