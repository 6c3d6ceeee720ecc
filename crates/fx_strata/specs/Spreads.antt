-- The words of canonical designs from two tallies: of the rows, and of the rows behind the base, without their first h
-- entries.
use Rattle.std.specs.Prelude.{ℕ, ◌≡◌, ◌<◌, ◌≤◌, ◌+◌, ◌-◌, ◌*◌, ◌/◌, ◌^◌, true, false, List, length, map}
use Rattle.fx_designs.specs.Vectors.{vectors_of}
use Rattle.fx_words.specs.Spreads.{spread}
use Rattle.fx_strata.specs.Designs.{Strata}
use Rattle.fx_strata.specs.Words.{words_in}
use Rattle.fx_strata.specs.Sums.{is_in_base}
use Rattle.fx_strata.specs.Canonical.{base, words}
use Rattle.fx_strata.specs.Floors.{new_words}

-- rows without their first h entries
abbrev pub behind_base : Strata → List ℕ → List ℕ
behind_base x rows = map (λ r. r / x.q ^ x.h) rows

-- how many vectors of weight k over the rows have the sum with the number y
abbrev pub sums_at : Strata → List ℕ → ℕ → ℕ → ℕ
sums_at x rows k y = spread x.q x.m (vectors_of x.q x.m rows) k y

-- how many have it behind the base
abbrev pub sums_behind : Strata → List ℕ → ℕ → ℕ → ℕ
sums_behind x rows k y = spread x.q (x.m - x.h) (vectors_of x.q (x.m - x.h) (behind_base x rows)) k y

-- constant words have the sum zero; words constant in each group are those whose sum is zero behind the base
pub record AreSpread (x : Strata) (rows : List ℕ) (k : ℕ) : Type 0 where
  pub constant : words x rows false k ≡ sums_at x rows k 0
  pub in_groups : words_in x.q x.m (is_in_base x (base x)) (vectors_of x.q x.m rows) k + sums_at x rows k 0
      ≡ sums_behind x rows k 0

-- a further row makes as many constant words as sums equal it, and as many of both kinds as equal it behind the base,
-- each with its multiples
pub record NewAreSpread (x : Strata) (rows : List ℕ) (r k : ℕ) : Type 0 where
  pub constant : new_words x rows r false k ≡ (x.q - 1) * sums_at x rows (k - 1) r
  pub both : new_words x rows r true k + new_words x rows r false k
      ≡ (x.q - 1) * sums_behind x rows (k - 1) (r / x.q ^ x.h)

abbrev pub WordsBySpreads : Strata → Type 0
WordsBySpreads x = (rows : List ℕ) (k : ℕ)
    → x.h ≤ x.m
    → AreSpread x rows k

abbrev pub NewWordsBySpreads : Strata → Type 0
NewWordsBySpreads x = (rows : List ℕ) (r k : ℕ)
    → x.h ≤ x.m
    → x.w ≤ length rows
    → r < x.q ^ x.m
    → 0 < k
    → NewAreSpread x rows r k
