-- Designs without their last factors.
use Rattle.std.proofs.Common.{ℕ, ◌≡◌, ◌≤◌, ◌+◌, Bool, true, false, if◌then◌else◌, List, ◌++◌, length}
use Rattle.std.proofs.Common.{take, drop, arith}
use Rattle.std.specs.Prelude.{All}
use Rattle.std.proofs.lemmas.List.{take-take, length-take-le}
use Rattle.std.proofs.Common.{take-append-drop}
use Rattle.std.proofs.lemmas.List.Elements.{All-take, All-drop, recursion_from_All}
use Rattle.fx_designs.specs.Galois.{IsField}
use Rattle.fx_designs.specs.Vectors.{IsVector, is_zero}
use Rattle.fx_laws.proofs.Space.{AreVectors}
use Rattle.fx_strata.specs.Designs.{Strata, base_of, words_of, IsStratified}
use Rattle.fx_strata.specs.Words.{words_in}
use Rattle.fx_strata.specs.Sums.{is_in_base, sums_of}
use Rattle.fx_strata.specs.Laws.{with_outside, FewerFactors}
use Rattle.fx_strata.proofs.Totals.{total-turned, total-more, counted}
use Rattle.fx_strata.proofs.Runs.{words-are-sums}

-- rows have at least the words of some of them
words-longer : (q m : ℕ) (f : IsField q) (test : List ℕ → Bool) (k : ℕ) (xs ys : List (List ℕ)) → AreVectors q m xs
    → AreVectors q m ys
    → words_in q m test xs k ≤ words_in q m test (xs ++ ys) k
unfolding words_in
words-longer q m f test k xs ys hx hy =
    let g = counted q m f test k in
    omega (arith, total-more q m f g ys xs hy hx, total-turned q m f g ys xs)

words-of-some : (q m : ℕ) (f : IsField q) (test : List ℕ → Bool) (k n : ℕ) (rows : List (List ℕ))
    → All (λ r. IsVector q m r) rows
    → words_in q m test (take n rows) k ≤ words_in q m test rows k
words-of-some q m f test k n rows h =
    rw (take-append-drop n rows) at (words-longer q m f test k _ _
    (recursion_from_All (IsVector q m) (take n rows) (All-take (IsVector q m) n rows h))
    (recursion_from_All (IsVector q m) (drop n rows) (All-drop (IsVector q m) n rows h)))

module _ (x : Strata) (f : IsField x.q) (n : ℕ) (blocks factors : List (List ℕ)) (low : n ≤ x.n)
    (S : IsStratified x blocks factors) where
  abbrev y : Strata
  y = with_outside x n

  abbrev few : List (List ℕ)
  few = take (x.w + n) factors

  inside : take x.w few ≡ take x.w factors
  inside = take-take x.w (x.w + n) factors (omega arith)

  same-base : base_of y blocks few ≡ base_of x blocks factors
  same-base = cc inside

  count : length few ≡ x.w + n
  count = length-take-le (x.w + n) factors (omega arith)

  rows : All (λ r. IsVector x.q x.m r) few
  rows = All-take (IsVector x.q x.m) _ factors S.factor_rows

  based : All (λ r. IsVector x.q x.m r) (base_of x blocks factors)
  based = base-rows _
    where
      base-rows : (b : Bool) → All (λ r. IsVector x.q x.m r) (if b then blocks else take x.w factors)
      base-rows true = S.block_rows
      base-rows false = All-take (IsVector x.q x.m) x.w factors S.factor_rows

  abbrev base : List (List ℕ)
  base = base_of x blocks factors

  fewer-sums : (b : Bool) (k : ℕ) → sums_of y base few b k ≤ sums_of x base factors b k
  fewer-sums false k = words-of-some x.q x.m f is_zero k _ factors S.factor_rows
  fewer-sums true k =
      let more = words-of-some x.q x.m f (is_in_base x base) k (x.w + n) factors S.factor_rows in
      let same : words_in x.q x.m (is_in_base x base) (take x.w few) k
      ≡ words_in x.q x.m (is_in_base x base) (take x.w factors) k =
      cc inside in
      omega arith

  fewer-words : (b : Bool) (k : ℕ) → words_of x base factors b k ≡ 0 → words_of y (base_of y blocks few) few b k ≡ 0
  fewer-words b k none =
      let less = fewer-sums b k in
      let whole = words-are-sums x f base factors (recursion_from_All _ base based)
      (recursion_from_All _ factors S.factor_rows) (omega arith) b k in
      let part = words-are-sums y f base few (recursion_from_All _ base based)
      (recursion_from_All _ few rows)
      (omega (arith, count)) b k in
      let zero : words_of y base few b k ≡ 0 = omega arith in
      cc same-base

  without_last : IsStratified y blocks few
  without_last = record {
    factor_count = count;
    block_rows = S.block_rows;
    factor_rows = rows;
    base = cc (same-base, S.base);
    none_of_one = fewer-words false 1 S.none_of_one;
    none_of_two = fewer-words false 2 S.none_of_two;
    none_confounded = fewer-words true 1 S.none_confounded;
  }

pub fewer_factors : (x : Strata) → IsField x.q → FewerFactors x
fewer_factors x f n blocks factors low S = without_last x f n blocks factors low S
