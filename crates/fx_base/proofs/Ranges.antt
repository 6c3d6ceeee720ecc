-- The numbers of a range.
use Rattle.std.proofs.Common.{◌≡◌, ℕ, zero, suc, ◌+◌, ◌<◌, ◌≤◌, [], ◌∷◌, ◌++◌, All, arith}
use Rattle.std.specs.List.{range_with_len, AllByRecursion}
use Rattle.std.proofs.lemmas.List.FromFn.{length-range_with_len, get_or-range_with_len}

pub each-range : (P : ℕ → Type 0) (a n : ℕ) → ((k : ℕ) → a ≤ k → k < a + n → P k)
    → AllByRecursion P (range_with_len a n)
each-range P a zero h = tt
each-range P a (suc n) h =
    (h a (omega arith) (omega arith), each-range P (a + 1) n (λ k low high. h k (omega arith) (omega arith)))

pub All-range : (n : ℕ) → All (λ k. k < n) (range_with_len 0 n)
All-range n k d low =
    let there : k < n = omega (arith, length-range_with_len 0 n) in
    rw (get_or-range_with_len 0 n k d there) (omega arith)

pub range_push : (a n c : ℕ) → a + n ≡ c → range_with_len a (n + 1) ≡ range_with_len a n ++ c ∷ []
range_push a zero c e = let same : a ≡ c = omega arith in cc same
range_push a (suc n) c e =
    let up : suc n + 1 ≡ suc (n + 1) = omega arith in
    cc (up, range_push (a + 1) n c (omega arith))
