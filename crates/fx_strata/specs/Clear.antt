-- Which sums can be those of clear words of two factors.
use Rattle.std.specs.Prelude.{ℕ, zero, suc, ◌==◌, ◌+◌, ◌-◌, ◌*◌, ◌^◌, ◌&&◌, not, nat_lt, Bool, List, count_by}
use Rattle.std.specs.List.{range_with_len}
use Rattle.fx_designs.specs.Galois.{number, digits}
use Rattle.fx_designs.specs.Vectors.{vectors_of}
use Rattle.fx_designs.specs.Spans.{in_span}
use Rattle.fx_words.specs.Spreads.{spread}
use Rattle.fx_strata.specs.Designs.{Strata}
use Rattle.fx_strata.specs.Canonical.{base}

-- how many words of weight k over the rows have the sum v
abbrev pub sums_like : Strata → List ℕ → ℕ → List ℕ → ℕ
sums_like x rows k v = spread x.q x.m (vectors_of x.q x.m rows) k (number x.q v)

-- whether a sum is live: it is not in the base, no multiple of a row, and that of one word of two factors at most. All
-- others are dead, for this prefix and each longer one.
abbrev pub is_live : Strata → List ℕ → List ℕ → Bool
is_live x rows v =
    not (in_span x.q x.m (base x) v) && ((sums_like x rows 1 v == 0) && nat_lt (sums_like x rows 2 v) 2)

-- how many sums are live
abbrev pub live_sums : Strata → List ℕ → ℕ
live_sums x rows = count_by (λ r. is_live x rows (digits x.q x.m r)) (range_with_len 0 (x.q ^ x.m))

-- whether a sum is that of a clear word
abbrev pub is_clear_sum : Strata → List ℕ → List ℕ → Bool
is_clear_sum x rows v = is_live x rows v && (sums_like x rows 2 v == 1)

-- how many words of two factors there are over k factors
abbrev pub pairs : ℕ → ℕ → ℕ
pairs q zero = 0
pairs q (suc k) = pairs q k + (q - 1) * ((q - 1) * k)
