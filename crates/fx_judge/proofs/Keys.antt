-- The number of the codes at marked places, and how many combinations of codes these have.
use Rattle.std.proofs.Common.{ℕ, zero, suc, ◌≡◌, ◌<◌, ◌≤◌, ◌+◌, ◌-◌, ◌*◌, ◌^◌, Bool, true, false, cond, eqb, List, []}
use Rattle.std.proofs.Common.{◌∷◌, length, map, drop, get_or, sym, ◌∙◌, arith}
use Rattle.std.specs.Prelude.{count_by}
use Rattle.std.proofs.Math.Nat.{pow-suc, one-le-pow, mul-le-mul_left}
use Rattle.std.proofs.lemmas.List.{drop_more}
use Rattle.fx_designs.specs.Vectors.{IsVector}
use Rattle.fx_laws.proofs.Codes.{number-below}
use Rattle.fx_laws.proofs.Sums.{sum_by_map}
use Rattle.fx_runs.specs.Counts.{AreEqual}
use Rattle.fx_judge.specs.Bases.{AreEven, basic_key, rank}
use Rattle.fx_judge.specs.Tallies.{AreValueCounts}
use Rattle.fx_judge.proofs.Even.{at_vector}

-- from place i on, by place i - 1 and those from i on
pub key_in : (q : ℕ) (marks : List Bool) (d : List ℕ) (i : ℕ) → 0 < i → i ≤ length marks → i ≤ length d
    → get_or marks (i - 1) false ≡ true
    → get_or d (i - 1) 0 + q * basic_key q (drop i marks) (drop i d)
    ≡ basic_key q (drop (i - 1) marks) (drop (i - 1) d)
key_in q marks d i some hm hd is =
    let one : i ≡ i - 1 + 1 = omega arith in
    let m : drop (i - 1) marks ≡ true ∷ drop (i - 1 + 1) marks =
    cc (drop_more marks (i - 1) false (omega arith)) in
    cc (drop_more d (i - 1) 0 (omega arith))

pub key_out : (q : ℕ) (marks : List Bool) (d : List ℕ) (i : ℕ) → 0 < i → i ≤ length marks → i ≤ length d
    → get_or marks (i - 1) false ≡ false
    → basic_key q (drop i marks) (drop i d) ≡ basic_key q (drop (i - 1) marks) (drop (i - 1) d)
key_out q marks d i some hm hd is =
    let one : i ≡ i - 1 + 1 = omega arith in
    let m : drop (i - 1) marks ≡ false ∷ drop (i - 1 + 1) marks =
    cc (drop_more marks (i - 1) false (omega arith)) in
    cc (drop_more d (i - 1) 0 (omega arith))

-- it grows with the places
pub key_drop : (q : ℕ) → 0 < q → (i : ℕ) (marks : List Bool) (d : List ℕ) → length d ≡ length marks
    → basic_key q (drop i marks) (drop i d) ≤ basic_key q marks d
key_drop q some zero marks d h = omega arith
key_drop q some (suc i) [] [] h = omega arith
key_drop q some (suc i) [] (c ∷ d) h = absurd (omega arith)
key_drop q some (suc i) (m ∷ marks) [] h = absurd (omega arith)
key_drop q some (suc i) (true ∷ marks) (c ∷ d) h =
    let rest = key_drop q some i marks d (omega arith) in
    let wide = mul-le-mul_left {m = 1} {n = q} (basic_key q marks d) some in
    let turn : basic_key q marks d * q ≡ q * basic_key q marks d = grind arith in
    omega arith
key_drop q some (suc i) (false ∷ marks) (c ∷ d) h = key_drop q some i marks d (omega arith)

pub key_below : (q : ℕ) (marks : List Bool) (d : List ℕ) → IsVector q (length marks) d
    → basic_key q marks d < q ^ rank marks
key_below q marks d h = number-below q _ _ (at_vector q marks d h)

-- with the code of one more marked place the number is still below how many there are
pub key_fits : (q : ℕ) (marks : List Bool) (d : List ℕ) (i key k a : ℕ) → 0 < q → 0 < i → i ≤ length marks
    → IsVector q (length marks) d → q ^ rank marks ≤ 4096 → get_or marks (i - 1) false ≡ true
    → key ≡ basic_key q (drop i marks) (drop i d) → k ≡ q → a ≡ get_or d (i - 1) 0 → a + k * key < 4096
key_fits q marks d i key k a some first hi hd few is ek eq ea =
    let more : a + k * key ≡ basic_key q (drop (i - 1) marks) (drop (i - 1) d) =
    cc (key_in q marks d i first hi (omega arith) is) in
    omega (arith, key_drop q some (i - 1) marks d hd.len, key_below q marks d hd)

-- the combinations of codes at the places before i, times those from i on
pub size_in : (q size : ℕ) (marks : List Bool) (i : ℕ) → i < length marks → get_or marks i false ≡ true
    → size * q * q ^ rank (drop (i + 1) marks) ≡ size * q ^ rank (drop i marks)
size_in q size marks i low is =
    let m : drop i marks ≡ true ∷ drop (i + 1) marks =
    cc (drop_more marks i false low) in
    let step : q ^ rank (drop i marks) ≡ q ^ rank (drop (i + 1) marks) * q =
    cc (pow-suc q (rank (drop (i + 1) marks))) in
    grind (arith, step)

pub size_out : (q size : ℕ) (marks : List Bool) (i : ℕ) → i < length marks → get_or marks i false ≡ false
    → size * q ^ rank (drop (i + 1) marks) ≡ size * q ^ rank (drop i marks)
size_out q size marks i low is =
    sym (cc (drop_more marks i false low))

-- they are no fewer than those at some of the places
pub size_grows : (q size total n : ℕ) → 0 < q → size * q ^ n ≡ total → size ≤ total
size_grows q size total n some is =
    omega (arith, mul-le-mul_left {m = 1} {n = q ^ n} size (one-le-pow n q some))

module _ (q : ℕ) (marks : List Bool) (differences : List (List ℕ)) (counts : List ℕ) (first : 0 < q ^ rank marks)
    (few : q ^ rank marks ≤ 4096) (tallied : AreValueCounts 4096 (map (basic_key q marks) differences) counts) where
  count_is : (z : ℕ) → z < q ^ rank marks
      → get_or counts z 0 ≡ count_by (λ d. eqb (basic_key q marks d) z) differences
  count_is z low =
      tallied.each z (omega arith) ∙ sum_by_map (λ k. cond (eqb k z) 1 0) (basic_key q marks) differences

  -- the counts are equal exactly where each combination comes equally often
  pub even_if_equal : (size : ℕ) → size ≡ q ^ rank marks → AreEqual size counts → AreEven q marks differences
  even_if_equal size is h = record {
    each = λ z low. cc (count_is z low, h z (omega arith), count_is 0 first);
  }

  pub equal_if_even : (size : ℕ) → size ≡ q ^ rank marks → AreEven q marks differences → AreEqual size counts
  equal_if_even size is h = λ z low.
      let inside : z < q ^ rank marks = omega arith in
      cc (count_is z inside, h.each z inside, count_is 0 first)
