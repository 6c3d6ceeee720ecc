-- Numbers below a bound, one after another.
use Rattle.std.proofs.Common.{ℕ, ◌<◌, ◌≤◌, ◌+◌, List, length, take, get_or, subst}
use Rattle.std.specs.List.{All}
use Rattle.std.proofs.lemmas.List.{take_all}
use Rattle.std.proofs.lemmas.List.Elements.{All-more}

-- one number more is below the bound
pub below_more : (xs : List ℕ) (b i : ℕ) → i < length xs → All (λ n. n < b) (take i xs) → get_or xs i 0 < b
    → All (λ n. n < b) (take (i + 1) xs)
below_more xs b i low h at = All-more (λ n. n < b) xs i 0 low h at

pub below_all : (xs : List ℕ) (b i : ℕ) → length xs ≤ i → All (λ n. n < b) (take i xs) → All (λ n. n < b) xs
below_all xs b i past h = subst (All (λ n. n < b)) (take_all i xs past) h
